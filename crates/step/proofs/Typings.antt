-- Annotations: what the code does is what the rules do. Assumes nothing.
use mathlib.Core.Path.{◌≡◌, refl, ap, sym, subst, subst⁻¹, ◌∙◌}
use mathlib.Core.Bool.{Bool, true, false, cond}
use mathlib.Core.List.{List}
use mathlib.Core.Option.{Option}
use Prim.Native.Nat.{ℕ, ◌+◌, ◌<◌, ◌≤◌}
use native.Mathlib.Omega.{arith}
use borrow.Author.Tests.{le-leb, lt-leb}
use Rattle.std.specs.Prelude.{Option as Optional, Some, None, Ok, Err}
use Rattle.numbers.specs.declared.Sort.{Sort}
use Rattle.numbers.specs.declared.refusal.Refusal.{Refusal}
use Rattle.numbers.specs.Limits.{largest}
use Rattle.numbers.specs.Records.{Same}
use Rattle.layout.specs.File.{props}
use Rattle.rules.specs.Prop.{Ty, alpha, size_ty}
use Rattle.rules.specs.State.{limit}
use Rattle.rules.specs.Step.{refuse, make, obey, on_type, resolved}
use Rattle.rules.specs.Rules.{annotated}
use Rattle.table.specs.Passing.{Counted}
use Rattle.prop.specs.declared.compare.Compared.{Compared}
use Rattle.arena.specs.declared.resolve.Resolved.{Resolved}
use Rattle.arena.specs.declared.resolve.Unresolved.TheVariants.{Unknown, Full}
use Rattle.prop.specs.Room.{type_at, TypeIn, Arena}
use Rattle.prop.specs.Compare.{compared_types, is_alpha}
use Rattle.arena.specs.Resolve.{ResolvedIs}
use Rattle.prop.proofs.Alike.{alpha_types}
use Rattle.prop.proofs.Rooms.{type_same}
use Rattle.step.specs.declared.state.State.{State}
use Rattle.step.specs.declared.state.Want.{Want}
use Rattle.step.specs.declared.state.Want.TheVariants as want
use Rattle.step.specs.Rooms.{reads, st_of, count_of, Loaded}
use Rattle.step.specs.Modes.{number_of}
use Rattle.step.specs.Steps.{ResolvedTo, ResolvingAs, AgreedAs}
use Rattle.step.proofs.Refusing.{mode_refusal}
use Rattle.step.proofs.Moves.{making_none, make_goes, make_stops, GrownTo}

-- RESOLVING the annotation of term p: `arena`'s answer, as the rules see it
module _ (l ps work ps' : List ℕ) (p : ℕ) (w : Want) (T : Sort) (c left : ℕ) (st : State) (ec : c ≡ count_of l st) (el : left + st.made ≡ limit) where
  abbrev n : ℕ
  n = number_of w 10 20

  pub resolve_unknown : ResolvedIs ps c left work st.context T ps' (Err Unknown) → (m : ℕ) → m ≡ number_of w 10 20 → (r : Refusal) → r ≡ record { number = m; place = p } → ResolvingAs l ps work ps' p w T st (Err r)
  unfolding resolved on_type obey
  resolve_unknown says m em r er =
      subst⁻¹ (λ (r : Refusal). ResolvingAs l ps work ps' p w T st (Err r)) (mode_refusal r m n p em er)
      (λ a k ks. ap (λ (x : Option Ty). obey (on_type x (λ B. make (size_ty B) p (k B)) (refuse n p)) ks (st_of st)) (says.1 (reads l ps) (props l)))

  pub resolve_full : ResolvedIs ps c left work st.context T ps' (Err Full) → (r : Refusal) → r ≡ record { number = 30; place = p } → ResolvingAs l ps work ps' p w T st (Err r)
  unfolding resolved on_type
  resolve_full says r er =
      let f = says.1 (reads l ps) (props l) in
      let B : Ty = f.0 in
      let over : left < size_ty B = f.2 in
      subst⁻¹ (λ (r : Refusal). ResolvingAs l ps work ps' p w T st (Err r)) er
      (λ a k ks.
      ap (λ (x : Option Ty). obey (on_type x (λ B. make (size_ty B) p (k B)) (refuse n p)) ks (st_of st)) f.1
      ∙ make_stops (size_ty B) p (k B) ks (st_of st) (lt-leb (st.made + size_ty B) limit (omega arith)))

  module _ (x : Resolved) (to : ResolvedIs ps c left work st.context T ps' (Ok x)) where
    pub resolve_more : c ≤ x.count
    resolve_more = let a = to.count 0 (omega arith) in omega arith

    pub resolve_few : Counted l → st.made + x.count ≤ largest
    unfolding limit
    resolve_few h = let b = to.within in omega (arith, h.propositions, ec, el)

    pub resolve_to : (s : State) → GrownTo st c x.count s → ResolvingAs l ps work ps' p w T st (Ok (record { typ = x.typ; state = s }))
    unfolding resolved on_type
    resolve_to s g =
        let A : Ty = reads l ps' x.typ in
        let count : x.count ≡ c + size_ty A = to.count (props l) (omega arith) in
        let within : x.count ≤ c + left = to.within in
        let more : s.made ≡ st.made + size_ty A = omega (arith, g.0) in
        let ends : x.count ≡ count_of l s = omega arith in
        record {
          typ = A;
          stands = record { among = subst (λ (e : ℕ). TypeIn e x.typ) ends to.below; means = refl };
          making =
              record {
                spent = size_ty A;
                state = λ i. record { records = g.1 i; goals = g.2 i; serials = g.3 i; made = more i; context = g.4 i; asked = g.5 i };
                within = omega arith;
                arena = subst (Arena ps') ends to.arena;
                same = subst (λ (c : ℕ). Same c ps ps') ec to.same;
                long = to.long;
              };
          goes = λ a k ks.
              ap (λ (x : Option Ty). obey (on_type x (λ B. make (size_ty B) p (k B)) (refuse n p)) ks (st_of st)) (to.means (reads l ps) (props l) (omega arith))
              ∙ make_goes (size_ty A) p (k A) ks (st_of st) (le-leb (st.made + size_ty A) limit (omega arith))
              ∙ (λ i. obey (k A) ks (record { serials = sym g.3 i; made = sym more i }));
        }

-- AGREEING
module _ (l ps work : List ℕ) (p : ℕ) (ann : Optional Sort) (A : Sort) (st : State) where
  pub agree_missing : ann ≡ None → Loaded l ps (count_of l st) → st.made ≤ limit → AgreedAs l ps work ps p ann A st (Ok st)
  unfolding annotated
  agree_missing e ok m = subst⁻¹ (λ (ann : Optional Sort). AgreedAs l ps work ps p ann A st (Ok st)) e (record { making = making_none ok.arena m; goes = λ a k ks. refl })

  module _ (ps' : List ℕ) (T : Sort) (e : ann ≡ Some T) where
    pub agree_refused : (x : Refusal) → ResolvingAs l ps work ps' p (want.Check A) T st (Err x) → AgreedAs l ps work ps' p ann A st (Err x)
    unfolding annotated
    agree_refused x says =
        subst⁻¹ (λ (ann : Optional Sort). AgreedAs l ps work ps' p ann A st (Err x)) e
        (λ a k ks. says a (λ B. cond (alpha B (reads l ps A)) k (refuse 14 p)) ks)

    module _ (U : Sort) (s : State) (went : ResolvedTo l ps work ps' p (want.Check A) T st U s) where
      module _ (ok : Loaded l ps (count_of l st)) (among : TypeIn (count_of l st) A) (d : Compared) (answer : (tables : ℕ) → d ≡ compared_types (type_at tables ps' U) (type_at tables ps' A)) (b : Bool) (eb : b ≡ is_alpha d) where
        tests : alpha went.typ (reads l ps A) ≡ b
        tests =
            ap (λ (B : Ty). alpha B (reads l ps A)) (sym went.stands.means)
            ∙ ap (alpha (reads l ps' U)) (sym (type_same ps' ok.arena went.making.same (props l) A among))
            ∙ sym (alpha_types d (reads l ps' U) (reads l ps' A) (answer (props l)))
            ∙ sym eb

        pub agree_on : b ≡ true → AgreedAs l ps work ps' p ann A st (Ok s)
        unfolding annotated
        agree_on t =
            subst⁻¹ (λ (ann : Optional Sort). AgreedAs l ps work ps' p ann A st (Ok s)) e
            (record {
              making = went.making;
              goes = λ a k ks.
                  went.goes a (λ B. cond (alpha B (reads l ps A)) k (refuse 14 p)) ks
                  ∙ ap (λ (b : Bool). obey (cond b k (refuse 14 p)) ks (st_of s)) (tests ∙ t);
            })

        pub agree_apart : b ≡ false → (x : Refusal) → x ≡ record { number = 14; place = p } → AgreedAs l ps work ps' p ann A st (Err x)
        unfolding annotated obey
        agree_apart t x ex =
            subst⁻¹ (λ (x : Refusal). AgreedAs l ps work ps' p ann A st (Err x)) ex
            (subst⁻¹ (λ (ann : Optional Sort). AgreedAs l ps work ps' p ann A st (Err (record { number = 14; place = p }))) e
            (λ a k ks.
            went.goes a (λ B. cond (alpha B (reads l ps A)) k (refuse 14 p)) ks
            ∙ ap (λ (b : Bool). obey (cond b k (refuse 14 p)) ks (st_of s)) (tests ∙ t)))
