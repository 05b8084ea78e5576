-- A function's type opened and its conclusion made, and a let closed: what the code does is what the rules do. Assumes nothing.
use mathlib.Core.Path.{◌≡◌, refl, ap, sym, subst, subst⁻¹, ◌∙◌}
use mathlib.Core.Bool.{Bool, true, false, cond}
use mathlib.Core.List.{List, [], ◌∷◌}
use Prim.Native.Nat.{ℕ, ◌+◌, ◌<◌, ◌≤◌}
use Rattle.std.specs.Prelude.{Option, Some, None, Ok, Err}
use Rattle.numbers.specs.declared.Name.{Name}
use Rattle.numbers.specs.declared.Proposition.{Proposition as Number}
use Rattle.numbers.specs.declared.Sort.{Sort}
use Rattle.numbers.specs.declared.Sort.TheVariants.{Proposition, Datatype}
use Rattle.numbers.specs.declared.refusal.Refusal.{Refusal}
use Rattle.numbers.specs.Limits.{largest}
use Rattle.layout.specs.File.{props}
use Rattle.rules.specs.Prop.{made as Origin, Prop, link, quant, prop, datatype, imp, all, put, bind, holds, size}
use Rattle.rules.specs.State.{limit}
use Rattle.rules.specs.Step.{Prog, refuse, obey, on_prop}
use Rattle.rules.specs.Rules.{by, abstracted, opening, closing}
use Rattle.table.specs.Passing.{Counted}
use Rattle.prop.specs.declared.head.Parts.{Parts}
use Rattle.prop.specs.declared.head.Bound.{Bound}
use Rattle.arena.specs.declared.copy.Copied.{Copied}
use Rattle.prop.specs.Room.{room_at}
use Rattle.arena.specs.Make.{PutIs, LinkIs, ForAllIs}
use Rattle.step.specs.declared.inference.Inference.TheVariants.{ImplIntro, ForAllIntro}
use Rattle.step.specs.declared.state.State.{State}
use Rattle.step.specs.declared.state.Want.{Want}
use Rattle.prop.specs.Head.{SplitAs, OverAs}
use Rattle.step.specs.Rooms.{st_of, count_of, Loaded}
use Rattle.step.specs.Modes.{number_of}
use Rattle.step.specs.Steps.{OpenedAs, ClosedAs, AbstractedAs}
use Rattle.step.proofs.Refusing.{mode_refusal}
use Rattle.step.proofs.Moves.{making_none, MadeFor, made_goes, GrownTo, made_for, made_more, made_few, full_stops, put_made, put_stops}

-- A FUNCTION OPENED
module _ (l ps : List ℕ) (p : ℕ) (E : Sort) (i c : ℕ) (st : State) (ec : c ≡ count_of l st) where
  pub open_impl : (x : Parts) → SplitAs imp ps c E (Some x) → Loaded l ps (count_of l st) → st.made ≤ limit → OpenedAs l ps ps p E i st (Ok (record { rule = ImplIntro; parameter = Proposition x.left; body = x.right; state = st }))
  unfolding opening
  open_impl x s ok m =
      record {
        parameter = prop (room_at (props l) ps x.left.0);
        body = room_at (props l) ps x.right.0;
        parameter_stands = record { among = subst (λ (c : ℕ). x.left.0 < c) ec s.first; means = refl };
        body_stands = record { among = subst (λ (c : ℕ). x.right.0 < c) ec s.second; means = refl };
        making = making_none ok.arena m;
        goes = λ n k ks. ap (λ (q : Prog n). obey q ks (st_of st)) (s.goes (props l) n _ _);
      }

  module _ (none : SplitAs imp ps c E None) where
    pub open_other : OverAs all ps c E None → (r : Refusal) → r ≡ record { number = 11; place = p } → OpenedAs l ps ps p E i st (Err r)
    unfolding opening obey
    open_other bare r er =
        subst⁻¹ (λ (r : Refusal). OpenedAs l ps ps p E i st (Err r)) er
        (λ n k ks. ap (λ (q : Prog n). obey q ks (st_of st)) (none (props l) n _ _ ∙ bare (props l) n _ _))

    module _ (b : Bound) (is_all : OverAs all ps c E (Some b)) (ps' : List ℕ) (left : ℕ) (el : left + st.made ≡ limit) where
      pub open_full : PutIs ps c left b.body.0 i ps' None → (r : Refusal) → r ≡ record { number = 30; place = p } → OpenedAs l ps ps' p E i st (Err r)
      unfolding opening
      open_full full r er =
          subst⁻¹ (λ (r : Refusal). OpenedAs l ps ps' p E i st (Err r)) er
          (λ n k ks. ap (λ (q : Prog n). obey q ks (st_of st)) (none (props l) n _ _ ∙ is_all.goes (props l) n _ _) ∙ put_stops l ps ps' c left b.body.0 i st None ec el full refl p _ ks)

      pub open_forall : (x : Copied) (s : State) → PutIs ps c left b.body.0 i ps' (Some x) → GrownTo st c x.count s → OpenedAs l ps ps' p E i st (Ok (record { rule = ForAllIntro; parameter = Datatype b.datatype; body = x.at; state = s }))
      unfolding opening
      open_forall x s put_in g =
          let d = put_made l ps ps' c left b.body.0 i st (Some x) ec el put_in s x refl g in
          record {
            parameter = datatype b.datatype.0;
            body = put i (room_at (props l) ps b.body.0);
            parameter_stands = record { among = tt; means = refl };
            body_stands = d.stands;
            making = d.making;
            goes = λ n k ks.
                ap (λ (q : Prog n). obey q ks (st_of st)) (none (props l) n _ _ ∙ is_all.goes (props l) n _ _)
                ∙ made_goes d p (k 11 (datatype b.datatype.0) (put i (room_at (props l) ps b.body.0))) ks;
          }

-- A LET CLOSED, whose body is p
module _ (l ps : List ℕ) (w : Want) (p i : ℕ) (T : Sort) (st : State) where
  pub close_data : (D : Name) → T ≡ Datatype D → (n : ℕ) → n ≡ number_of w 13 24 → (r : Refusal) → r ≡ record { number = n; place = p } → ClosedAs l ps w p i T st (Err r)
  unfolding closing on_prop obey
  close_data D e n en r er =
      subst⁻¹ (λ (r : Refusal). ClosedAs l ps w p i T st (Err r)) (mode_refusal r n (number_of w 13 24) p en er)
      (subst⁻¹ (λ (T : Sort). ClosedAs l ps w p i T st (Err (record { number = number_of w 13 24; place = p }))) e (λ a k ks. refl))

  module _ (q : Number) (e : T ≡ Proposition q) (b : Bool) (says : (tables : ℕ) → b ≡ holds i (room_at tables ps q.0)) where
    pub close_holds : b ≡ true → (n : ℕ) → n ≡ number_of w 16 27 → (r : Refusal) → r ≡ record { number = n; place = p } → ClosedAs l ps w p i T st (Err r)
    unfolding closing on_prop obey
    close_holds h n en r er =
        subst⁻¹ (λ (r : Refusal). ClosedAs l ps w p i T st (Err r)) (mode_refusal r n (number_of w 16 27) p en er)
        (subst⁻¹ (λ (T : Sort). ClosedAs l ps w p i T st (Err (record { number = number_of w 16 27; place = p }))) e
        (λ a k ks. ap (λ (b : Bool). obey (cond b (refuse (number_of w 16 27) p) k) ks (st_of st)) (sym (says (props l)) ∙ h)))

    pub close_shut : b ≡ false → ClosedAs l ps w p i T st (Ok tt)
    unfolding closing on_prop
    close_shut h =
        subst⁻¹ (λ (T : Sort). ClosedAs l ps w p i T st (Ok tt)) e
        (λ a k ks. ap (λ (b : Bool). obey (cond b (refuse (number_of w 16 27) p) k) ks (st_of st)) (sym (says (props l)) ∙ h))

-- A FUNCTION'S CONCLUSION
module _ (l ps ps' : List ℕ) (p x i : ℕ) (A : Sort) (b c left : ℕ) (st : State) (o : Option Copied) (ec : c ≡ count_of l st) (el : left + st.made ≡ limit) where
  module _ (a : Number) (ea : A ≡ Proposition a) (is : LinkIs imp ps c left a.0 b ps' o) where
    pub impl_more : (made : Copied) → o ≡ Some made → c ≤ made.count
    impl_more made v = made_more l ps ps' c left st (λ t. 1) (λ t. link Origin imp (room_at t ps a.0) (room_at t ps b)) o ec el is made v

    pub impl_few : (made : Copied) → o ≡ Some made → Counted l → st.made + made.count ≤ largest
    impl_few made v h = made_few l ps ps' c left st (λ t. 1) (λ t. link Origin imp (room_at t ps a.0) (room_at t ps b)) o ec el is made v h

    pub impl_full : o ≡ None → (r : Refusal) → r ≡ record { number = 30; place = p } → AbstractedAs l ps ps' p x i A b st (Err r)
    unfolding abstracted
    impl_full v r er =
        subst⁻¹ (λ (r : Refusal). AbstractedAs l ps ps' p x i A b st (Err r)) er
        (subst⁻¹ (λ (A : Sort). AbstractedAs l ps ps' p x i A b st (Err (record { number = 30; place = p }))) ea
        (λ ks. full_stops l ps ps' c left st (λ t. 1) (λ t. link Origin imp (room_at t ps a.0) (room_at t ps b)) o ec el is v p _ ks))

    pub impl_made : (made : Copied) (s : State) → o ≡ Some made → GrownTo st c made.count s → AbstractedAs l ps ps' p x i A b st (Ok (record { rule = ImplIntro; whole = made.at; state = s }))
    unfolding abstracted
    impl_made made s v g =
        let P : Prop = link Origin imp (room_at (props l) ps a.0) (room_at (props l) ps b) in
        let d : MadeFor l ps ps' st s 1 P made.at = made_for l ps ps' c left st (λ t. 1) (λ t. link Origin imp (room_at t ps a.0) (room_at t ps b)) o ec el is s made v g in
        subst⁻¹ (λ (A : Sort). AbstractedAs l ps ps' p x i A b st (Ok (record { rule = ImplIntro; whole = made.at; state = s }))) ea
        (record { whole = P; stands = d.stands; making = d.making; goes = λ ks. made_goes d p (by 5 p (prop P) (i ∷ [])) ks })

  module _ (D : Name) (eD : A ≡ Datatype D) (is : ForAllIs ps c left x D.0 i b ps' o) where
    pub forall_more : (made : Copied) → o ≡ Some made → c ≤ made.count
    forall_more made v = made_more l ps ps' c left st (λ t. size (room_at t ps b) + 1) (λ t. quant Origin all x D.0 (bind i (room_at t ps b))) o ec el is made v

    pub forall_few : (made : Copied) → o ≡ Some made → Counted l → st.made + made.count ≤ largest
    forall_few made v h = made_few l ps ps' c left st (λ t. size (room_at t ps b) + 1) (λ t. quant Origin all x D.0 (bind i (room_at t ps b))) o ec el is made v h

    pub forall_full : o ≡ None → (r : Refusal) → r ≡ record { number = 30; place = p } → AbstractedAs l ps ps' p x i A b st (Err r)
    unfolding abstracted
    forall_full v r er =
        subst⁻¹ (λ (r : Refusal). AbstractedAs l ps ps' p x i A b st (Err r)) er
        (subst⁻¹ (λ (A : Sort). AbstractedAs l ps ps' p x i A b st (Err (record { number = 30; place = p }))) eD
        (λ ks. full_stops l ps ps' c left st (λ t. size (room_at t ps b) + 1) (λ t. quant Origin all x D.0 (bind i (room_at t ps b))) o ec el is v p _ ks))

    pub forall_made : (made : Copied) (s : State) → o ≡ Some made → GrownTo st c made.count s → AbstractedAs l ps ps' p x i A b st (Ok (record { rule = ForAllIntro; whole = made.at; state = s }))
    unfolding abstracted
    forall_made made s v g =
        let B : Prop = room_at (props l) ps b in
        let P : Prop = quant Origin all x D.0 (bind i B) in
        let d : MadeFor l ps ps' st s (size B + 1) P made.at =
        made_for l ps ps' c left st (λ t. size (room_at t ps b) + 1) (λ t. quant Origin all x D.0 (bind i (room_at t ps b))) o ec el is s made v g in
        subst⁻¹ (λ (A : Sort). AbstractedAs l ps ps' p x i A b st (Ok (record { rule = ForAllIntro; whole = made.at; state = s }))) eD
        (record { whole = P; stands = d.stands; making = d.making; goes = λ ks. made_goes d p (by 11 p (prop P) (i ∷ [])) ks })
