-- A term's annotation, as the code reads it from the record and as the rules have it. Assumes nothing.
use mathlib.Core.Path.{◌≡◌, refl, ap, sym, subst, subst⁻¹, ◌∙◌}
use mathlib.Core.List.{List, []}
use mathlib.Core.Option.{some}
use Prim.Native.Nat.{ℕ, zero, suc, ◌<◌, ◌≤◌}
use native.Mathlib.Omega.{arith}
use Rattle.std.specs.Prelude.{Option, Some, None}
use Rattle.numbers.specs.declared.Sort.{Sort}
use Rattle.layout.specs.declared.record.TermRecord.{TermRecord}
use Rattle.layout.specs.File.{props, terms, term_record, kinds, kind_of}
use Rattle.layout.specs.Form.{term_shape}
use Rattle.rules.specs.Prop.{Prop, prop}
use Rattle.table.specs.Links.{hits, annotation_links}
use Rattle.table.specs.Reading.{type_of, annotated}
use Rattle.table.proofs.Sums.{hit_here}
use Rattle.table.proofs.Links.{annotation_in}
use Rattle.table.proofs.Reading.{tag_range}
use Rattle.step.specs.Rooms.{Table, Loaded}
use Rattle.step.specs.Steps.{annotation_of, AnnotationIn, saying}

-- FROM TAG AND NUMBER: a proposition is one of the table's
module _ {l ps : List ℕ} {c : ℕ} (loaded : Loaded l ps c) where
  says_at : (tag m : ℕ) → (tag ≡ 1 → m < props l) → saying l ps (annotation_of tag m) ≡ type_of l tag m
  unfolding type_of
  says_at zero m h = refl
  says_at (suc zero) m h = ap (λ (P : Prop). some (prop P)) (loaded.table m (h refl))
  says_at (suc (suc t)) m h = refl

  in_at : (tag m : ℕ) → (tag ≡ 1 → m < props l) → AnnotationIn c (annotation_of tag m)
  in_at zero m h = tt
  in_at (suc zero) m h = omega (arith, loaded.first, h refl)
  in_at (suc (suc t)) m h = tt

is_missing : Option Sort → Type 0
is_missing (Some T) = ⊥
is_missing None = Unit {0}

given_at : (tag m : ℕ) → 1 ≤ tag → is_missing (annotation_of tag m) → ⊥
unfolding is_missing
given_at zero m h x = omega arith
given_at (suc zero) m h x = x
given_at (suc (suc t)) m h x = x

-- OF TERM k, whose record is r
module _ {l : List ℕ} (table : Table l) {k : ℕ} (h : k < terms l) (r : TermRecord) (er : r ≡ term_record l k) (ann : Option Sort) (ea : ann ≡ annotation_of r.tag r.typ) where
  known : r.tag ≡ 1 → r.typ < props l
  unfolding annotation_links
  known = subst⁻¹ (λ (r : TermRecord). r.tag ≡ 1 → r.typ < props l) er at
    where
      at : (term_record l k).tag ≡ 1 → (term_record l k).typ < props l
      at e =
          let m = (term_record l k).typ in
          annotation_in table.directed k m h (subst⁻¹ (λ (t : ℕ). 0 < hits m (annotation_links t m)) e (hit_here m []))

  module _ {ps : List ℕ} {c : ℕ} (loaded : Loaded l ps c) where
    -- what it says to the rules
    pub annotation_says : saying l ps ann ≡ annotated l k
    annotation_says = ap (saying l ps) ea ∙ says_at loaded r.tag r.typ known ∙ ap (λ (r : TermRecord). type_of l r.tag r.typ) er

    pub annotation_among : AnnotationIn c ann
    annotation_among = subst⁻¹ (AnnotationIn c) ea (in_at loaded r.tag r.typ known)

  -- an ascription has one
  pub annotation_given : (term_record l k).kind ≡ 12 → ann ≡ None → ⊥
  unfolding is_missing kind_of kinds term_shape
  annotation_given kind e = given_at r.tag r.typ some_tag (subst is_missing (sym e ∙ ea) tt)
    where
      some_tag : 1 ≤ r.tag
      some_tag = subst⁻¹ (λ (r : TermRecord). 1 ≤ r.tag) er (subst (λ (n : ℕ). (term_shape (kind_of n)).least ≤ (term_record l k).tag) kind (tag_range table.formed k h).0)
