-- Heads by their kinds' numbers, and what a rule does with a type that was taken apart. Assumes nothing.
use mathlib.Core.Path.{◌≡◌, refl, ap, sym, subst, subst⁻¹, ◌∙◌}
use mathlib.Core.Bool.{Bool, true, false, cond}
use mathlib.Core.List.{List}
use Prim.Native.Nat.{ℕ, zero, suc, ◌<◌}
use native.Mathlib.Omega.{arith}
use lib.Dec.{eqb}
use Rattle.std.specs.Prelude.{Some, None}
use Rattle.numbers.specs.declared.Name.{Name}
use Rattle.numbers.specs.declared.Proposition.{Proposition as Number}
use Rattle.numbers.specs.declared.Sort.{Sort}
use Rattle.numbers.specs.declared.Sort.TheVariants.{Proposition, Datatype}
use Rattle.numbers.specs.declared.record.Record.{Record}
use Rattle.numbers.specs.Records.{record_at}
use Rattle.rules.specs.Prop.{Link, and, or, imp, Quant, all, ex, Origin, made, Prop, const, link, quant, prop, same_link, same_quant, same, same_ty, eq}
use Rattle.rules.specs.Step.{Arity, Prog, on_link, on_quant}
use Rattle.layout.specs.File.{PropKind, constant, linked, quantified, atomic, strange, prop_kind, prop_kinds}
use Rattle.prop.specs.Room.{node, room_at, type_at, TypeIn, Arena}
use Rattle.prop.specs.View.{Joins, Binds}
use Rattle.prop.specs.Head.{Split, SplitAs, Over, OverAs}
use Rattle.prop.proofs.Rooms.{parts_under, body_under, not_strange, room_step}

-- KINDS by their numbers
unfoldable pub number : PropKind → ℕ
number (constant true) = 0
number (constant false) = 1
number (linked and) = 2
number (linked or) = 3
number (linked imp) = 4
number (quantified all) = 5
number (quantified ex) = 6
number atomic = 7
number strange = 8

pub kind_number : (k : ℕ) → (prop_kind k ≡ strange → ⊥) → number (prop_kind k) ≡ k
unfolding prop_kind prop_kinds number
kind_number zero h = refl
kind_number (suc zero) h = refl
kind_number (suc (suc zero)) h = refl
kind_number (suc (suc (suc zero))) h = refl
kind_number (suc (suc (suc (suc zero)))) h = refl
kind_number (suc (suc (suc (suc (suc zero))))) h = refl
kind_number (suc (suc (suc (suc (suc (suc zero)))))) h = refl
kind_number (suc (suc (suc (suc (suc (suc (suc zero))))))) h = refl
kind_number (suc (suc (suc (suc (suc (suc (suc (suc k)))))))) h = absurd (h refl)

-- two known kinds that are the same have one number
pub same_number : (j k : ℕ) (K : PropKind) → (K ≡ strange → ⊥) → prop_kind j ≡ K → prop_kind k ≡ K → j ≡ k
same_number j k K h e f = sym (kind_number j (λ q. h (sym e ∙ q))) ∙ ap number (e ∙ sym f) ∙ kind_number k (λ q. h (sym f ∙ q))

link_known : (l : Link) → linked l ≡ strange → ⊥
link_known l e = let z : ◌≡◌ {A = ℕ} 0 1 = cc in omega arith

quant_known : (q : Quant) → quantified q ≡ strange → ⊥
quant_known q e = let z : ◌≡◌ {A = ℕ} 0 1 = cc in omega arith

-- HEADS. Where the kind is another, so is the head
pub other_link : (l h : Link) → (linked h ≡ linked l → ⊥) → same_link l h ≡ false
unfolding same_link
other_link and and e = absurd (e refl)
other_link and or e = refl
other_link and imp e = refl
other_link or and e = refl
other_link or or e = absurd (e refl)
other_link or imp e = refl
other_link imp and e = refl
other_link imp or e = refl
other_link imp imp e = absurd (e refl)

pub other_quant : (q r : Quant) → (quantified r ≡ quantified q → ⊥) → same_quant q r ≡ false
unfolding same_quant
other_quant all all e = absurd (e refl)
other_quant all ex e = refl
other_quant ex all e = refl
other_quant ex ex e = absurd (e refl)

pub link_self : (l : Link) → same_link l l ≡ true
unfolding same_link
link_self and = refl
link_self or = refl
link_self imp = refl

pub quant_self : (q : Quant) → same_quant q q ≡ true
unfolding same_quant
quant_self all = refl
quant_self ex = refl

module _ (tables n : ℕ) (sub : ℕ → Prop) (r : Record) where
  module _ {m : Arity} (l : Link) (k : Prop → Prop → Prog m) (z : Prog m) where
    no_link : (K : PropKind) → (K ≡ linked l → ⊥) → on_link l (prop (node tables n sub K r)) k z ≡ z
    unfolding node on_link
    no_link (constant b) e = refl
    no_link (linked h) e = ap (λ (b : Bool). cond b (k (sub r.a) (sub r.b)) z) (other_link l h e)
    no_link (quantified q) e = refl
    no_link atomic e = refl
    no_link strange e = refl

  module _ {m : Arity} (q : Quant) (k : ℕ → ℕ → Prop → Prog m) (z : Prog m) where
    no_quant : (K : PropKind) → (K ≡ quantified q → ⊥) → on_quant q (prop (node tables n sub K r)) k z ≡ z
    unfolding node on_quant
    no_quant (constant b) e = refl
    no_quant (linked h) e = refl
    no_quant (quantified s) e = ap (λ (b : Bool). cond b (k r.a r.b (sub r.c)) z) (other_quant q s e)
    no_quant atomic e = refl
    no_quant strange e = refl

  is_truth : (K : PropKind) → eqb (number K) 0 ≡ same true (node tables n sub K r) (const made true)
  unfolding node number same
  is_truth (constant true) = refl
  is_truth (constant false) = refl
  is_truth (linked and) = refl
  is_truth (linked or) = refl
  is_truth (linked imp) = refl
  is_truth (quantified all) = refl
  is_truth (quantified ex) = refl
  is_truth atomic = refl
  is_truth strange = refl

-- WHAT A RULE DOES with the parts
on_joined : {m : Arity} (l : Link) (k : Prop → Prop → Prog m) (z : Prog m) (P : Prop) (o : Origin) (A B : Prop) → P ≡ link o l A B
    → on_link l (prop P) k z ≡ k A B
unfolding on_link
on_joined l k z P o A B e = ap (λ (P : Prop). on_link l (prop P) k z) e ∙ ap (λ (b : Bool). cond b (k A B) z) (link_self l)

on_bound : {m : Arity} (q : Quant) (k : ℕ → ℕ → Prop → Prog m) (z : Prog m) (P : Prop) (o : Origin) (x D : ℕ) (B : Prop) → P ≡ quant o q x D B
    → on_quant q (prop P) k z ≡ k x D B
unfolding on_quant
on_bound q k z P o x D B e = ap (λ (P : Prop). on_quant q (prop P) k z) e ∙ ap (λ (b : Bool). cond b (k x D B) z) (quant_self q)

-- A NUMBER TAKEN APART, from its record
module _ (w : List ℕ) (c n : ℕ) (ok : Arena w c) (k : n < c) (r : Record) (er : r ≡ record_at w n) where
  abbrev kind_here : PropKind
  kind_here = prop_kind (record_at w n).kind

  by_kind : (m : ℕ) → r.kind ≡ m → kind_here ≡ prop_kind m
  by_kind m e = ap (λ (s : Record). prop_kind s.kind) (sym er) ∙ ap prop_kind e

  not_kind : (m : ℕ) (K : PropKind) → (r.kind ≡ m → ⊥) → (K ≡ strange → ⊥) → prop_kind m ≡ K → kind_here ≡ K → ⊥
  not_kind m K e h f g = e (ap (λ (s : Record). s.kind) er ∙ same_number (record_at w n).kind m K h g f)

  pub head_joins : (m : ℕ) → r.kind ≡ m → (l : Link) → prop_kind m ≡ linked l → Joins l w n r.a r.b
  unfolding node
  head_joins m e l f =
      let K : kind_here ≡ linked l = by_kind m e ∙ f in
      let u = parts_under (ok.each n k) l K in
      subst⁻¹ (λ (s : Record). Joins l w n s.a s.b) er
      record {
        first = u.0;
        second = u.1;
        whole = λ tables. room_step ok tables n k ∙ ap (λ (K : PropKind). node tables n (room_at tables w) K (record_at w n)) K;
      }

  head_no_link : (m : ℕ) → (r.kind ≡ m → ⊥) → (l : Link) → prop_kind m ≡ linked l → (tables : ℕ) {a : Arity} (f : Prop → Prop → Prog a) (z : Prog a)
      → on_link l (prop (room_at tables w n)) f z ≡ z
  head_no_link m e l q tables f z =
      ap (λ (P : Prop). on_link l (prop P) f z) (room_step ok tables n k)
      ∙ no_link tables n (room_at tables w) (record_at w n) l f z kind_here (not_kind m (linked l) e (link_known l) q)

  pub head_binds : (m : ℕ) → r.kind ≡ m → (q : Quant) → prop_kind m ≡ quantified q → Binds q w n r.b r.c
  unfolding node
  head_binds m e q f =
      let K : kind_here ≡ quantified q = by_kind m e ∙ f in
      subst⁻¹ (λ (s : Record). Binds q w n s.b s.c) er
      record {
        under = body_under (ok.each n k) q K;
        whole = λ tables. room_step ok tables n k ∙ ap (λ (K : PropKind). node tables n (room_at tables w) K (record_at w n)) K;
      }

  head_no_quant : (m : ℕ) → (r.kind ≡ m → ⊥) → (q : Quant) → prop_kind m ≡ quantified q → (tables : ℕ) {a : Arity} (f : ℕ → ℕ → Prop → Prog a) (z : Prog a)
      → on_quant q (prop (room_at tables w n)) f z ≡ z
  head_no_quant m e q h tables f z =
      ap (λ (P : Prop). on_quant q (prop P) f z) (room_step ok tables n k)
      ∙ no_quant tables n (room_at tables w) (record_at w n) q f z kind_here (not_kind m (quantified q) e (quant_known q) h)

  head_truth : (tables : ℕ) → eqb r.kind 0 ≡ same true (room_at tables w n) (const made true)
  head_truth tables =
      ap (λ (s : Record). eqb s.kind 0) er
      ∙ ap (λ (k : ℕ). eqb k 0) (sym (kind_number (record_at w n).kind (not_strange (ok.each n k))))
      ∙ is_truth tables n (room_at tables w) (record_at w n) kind_here
      ∙ ap (λ (P : Prop). same true P (const made true)) (sym (room_step ok tables n k))

-- A TYPE TAKEN APART, as `head` does it: a proposition as its number is; a datatype has no parts
pub prop_in : (c : ℕ) (T : Sort) (n : Number) → T ≡ Proposition n → TypeIn c T → n.0 < c
prop_in c T n e h = subst (TypeIn c) e h

module _ (w : List ℕ) (c : ℕ) (T : Sort) (n : Number) (e : T ≡ Proposition n) (ok : Arena w c) (i : TypeIn c T) (r : Record) (er : r ≡ record_at w n.0) (m : ℕ) where
  among : n.0 < c
  among = prop_in c T n e i

  module _ (l : Link) (q : prop_kind m ≡ linked l) where
    pub split_both : r.kind ≡ m → SplitAs l w c T (Some (record { left = record { 0 = r.a }; right = record { 0 = r.b } }))
    split_both h =
        let j = head_joins w c n.0 ok among r er m h l q in
        subst⁻¹ (λ (T : Sort). Split l w c T r.a r.b) e
        record {
          first = omega (arith, j.first, among);
          second = omega (arith, j.second, among);
          goes = λ tables a f z. on_joined l f z _ _ _ _ (j.whole tables);
        }

    pub split_other : (r.kind ≡ m → ⊥) → SplitAs l w c T None
    split_other h =
        subst⁻¹ (λ (T : Sort). SplitAs l w c T None) e (λ tables a f z. head_no_link w c n.0 ok among r er m h l q tables f z)

  module _ (l : Quant) (q : prop_kind m ≡ quantified l) where
    pub over_one : r.kind ≡ m → OverAs l w c T (Some (record { datatype = record { 0 = r.b }; body = record { 0 = r.c } }))
    over_one h =
        let j = head_binds w c n.0 ok among r er m h l q in
        subst⁻¹ (λ (T : Sort). Over l w c T r.b r.c) e
        record {
          object = (record_at w n.0).a;
          body = omega (arith, j.under, among);
          goes = λ tables a f z. on_bound l f z _ _ _ _ _ (j.whole tables);
        }

    pub over_other : (r.kind ≡ m → ⊥) → OverAs l w c T None
    over_other h =
        subst⁻¹ (λ (T : Sort). OverAs l w c T None) e (λ tables a f z. head_no_quant w c n.0 ok among r er m h l q tables f z)

pub truth_prop : (w : List ℕ) (c : ℕ) (T : Sort) (n : Number) → T ≡ Proposition n → Arena w c → TypeIn c T → (r : Record) → r ≡ record_at w n.0
    → (tables : ℕ) → eqb r.kind 0 ≡ eq (type_at tables w T) (prop (const made true))
unfolding eq same_ty
truth_prop w c T n e ok i r er tables = rw e (head_truth w c n.0 ok (prop_in c T n e i) r er tables)

module _ (w : List ℕ) (T : Sort) (d : Name) (e : T ≡ Datatype d) where
  pub split_data : (l : Link) (c : ℕ) → SplitAs l w c T None
  unfolding on_link
  split_data l c = subst⁻¹ (λ (T : Sort). SplitAs l w c T None) e (λ tables a f z. refl)

  pub over_data : (q : Quant) (c : ℕ) → OverAs q w c T None
  unfolding on_quant
  over_data q c = subst⁻¹ (λ (T : Sort). OverAs q w c T None) e (λ tables a f z. refl)

  pub truth_data : (tables : ℕ) → false ≡ eq (type_at tables w T) (prop (const made true))
  unfolding eq same_ty
  truth_data tables = rw e
