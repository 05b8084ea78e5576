-- Copies of a proposition: parameters, atoms, and records put after those that are there. Assumes nothing.
use mathlib.Core.Path.{◌≡◌, refl, ap, sym, subst, subst⁻¹, ◌∙◌}
use mathlib.Core.Bool.{Bool, true}
use mathlib.Core.List.{List}
use Prim.Native.Nat.{ℕ, suc, ◌+◌, ◌*◌, ◌<◌, ◌≤◌}
use native.Mathlib.Omega.{arith}
use lib.ListN.{length}
use lib.Dec.{ltb}
use borrow.Author.Tests.{lt-ltb, le-ltb}
use Rattle.numbers.specs.declared.record.Record.{Record}
use Rattle.numbers.specs.Limits.{largest}
use Rattle.numbers.specs.Records.{record_at, Same}
use Rattle.rules.specs.Prop.{Param, Link, Quant, Origin, made, Prop, const, link, quant, atom, copy, walk, size}
use Rattle.rules.specs.State.{limit}
use Rattle.layout.specs.File.{PropKind, constant, linked, quantified, atomic, prop_kind}
use Rattle.layout.specs.Form.{prop_shape, in_prop_shape, prop_form}
use Rattle.table.specs.Links.{all_links, prop_children, prop_links}
use Rattle.arena.specs.declared.copy.Copied.{Copied}
use Rattle.prop.specs.declared.atom.Parameter.{Parameter}
use Rattle.prop.specs.declared.atom.Parameter.TheVariants.{Unused}
use Rattle.prop.specs.Room.{origin, node, room_at, form_as, room_form, Arena}
use Rattle.prop.specs.Atom.{parameter_at, becomes, with_parameters}
use Rattle.arena.specs.Copy.{Makes, most_records, AtomIs, MoreIs, CopiedIs}
use Rattle.prop.proofs.Rooms.{kind_known, room_same, arena_put, room_put}
use Rattle.prop.proofs.Views.{kind_constant, kind_linked, kind_quantified, kind_atomic, stands, at_linked, at_quantified}
use Rattle.prop.proofs.Counts.{size_some}
use Rattle.prop.proofs.Atoms.{join, atom_of, form_of}
use Rattle.prop.proofs.Places.{changed_atom, one_changed, changed_form, changed_params}

-- AN ATOM
module _ (h : Param → Param) (r : Record) (K : prop_kind r.kind ≡ atomic) (form : room_form r ≡ true) where
  changed_is : AtomIs h r (changed_atom h r)
  unfolding with_parameters
  changed_is =
      let a = atom_of r K form in
      record { kind = refl; predicate = refl; form = form_of (changed_atom h r) K (changed_form h r a.few a.bare); means = changed_params h r }

  pub atom_changed : (o : Record) → o ≡ changed_atom h r → AtomIs h r o
  atom_changed o e = subst⁻¹ (AtomIs h r) e changed_is

  pub atom_of_one : (p q : Parameter) (o : Record) → r.count ≤ 1 → p ≡ parameter_at r 0 → q ≡ becomes h p → o ≡ with_parameters r q Unused Unused Unused
      → AtomIs h r o
  atom_of_one p q o few e f g = atom_changed o (one_changed h r p q o few e f g)

-- ONE RECORD MORE, in a room that kept the first c
pub one_word : (c : ℕ) → c < most_records → c + 1 < 65536
unfolding limit
one_word c h = omega arith

pub made_here : (tables n : ℕ) → tables ≤ n → origin tables n ≡ made
unfolding origin
made_here tables n h = rw (le-ltb n tables h)

module _ {old mid new : List ℕ} {c e : ℕ} {q : Record} {o : Copied} (k : ℕ → ℕ) (P : ℕ → Prop) where
  pub top : Arena mid e → Same c old mid → c ≤ e → length mid ≡ length old → e < most_records → 16 * most_records ≤ length old → room_form q ≡ true
      → all_links (λ m. ltb m e) (prop_links q) ≡ true → ((tables : ℕ) → e + 1 ≡ c + k tables)
      → ((tables : ℕ) → tables ≤ c → node tables e (room_at tables mid) (prop_kind q.kind) q ≡ P tables)
      → MoreIs mid e q new o → Makes old c k P new o.at.0 o.count
  top ok same up len lim long form links sizes means g =
      let room : 16 * e + 16 ≤ length mid = omega arith in
      record {
        count = λ tables. omega (arith, g.1, sizes tables);
        below = omega (arith, g.0, g.1);
        arena = subst⁻¹ (Arena new) g.1 (arena_put ok g.2 form links room);
        same = λ i l. g.2.others i (omega arith) ∙ same i l;
        long = g.2.size ∙ len;
        means = λ tables l. ap (room_at tables new) g.0 ∙ room_put ok g.2 form links room tables ∙ means tables l;
      }

-- the links of a record of a known kind
pub links_as : (ok : ℕ → Bool) (q : Record) (K : PropKind) → prop_kind q.kind ≡ K → all_links ok (prop_children (prop_shape K).children q) ≡ true → all_links ok (prop_links q) ≡ true
links_as ok q K e h = subst⁻¹ (λ (K : PropKind). all_links ok (prop_children (prop_shape K).children q) ≡ true) e h

-- what is written over a field that its kind uses does not matter to a record's form
link_form : (r : Record) (l : Link) (a b : ℕ) → prop_kind r.kind ≡ linked l → room_form r ≡ true
    → room_form (record { kind = r.kind; count = r.count; a = a; b = b; c = r.c; parameters = r.parameters }) ≡ true
unfolding room_form form_as prop_form prop_shape
link_form r l a b e f =
    let q : Record = record { kind = r.kind; count = r.count; a = a; b = b; c = r.c; parameters = r.parameters } in
    let f' : form_as (linked l) r ≡ true = subst (λ (K : PropKind). form_as K r ≡ true) e f in
    let g : in_prop_shape (prop_shape (linked l)) r ≡ true = subst (λ (K : PropKind). in_prop_shape (prop_shape K) r ≡ true) e f' in
    subst⁻¹ (λ (K : PropKind). form_as K q ≡ true) e (subst⁻¹ (λ (K : PropKind). in_prop_shape (prop_shape K) q ≡ true) e g)

quant_form : (r : Record) (x : Quant) (c : ℕ) → prop_kind r.kind ≡ quantified x → room_form r ≡ true
    → room_form (record { kind = r.kind; count = r.count; a = r.a; b = r.b; c = c; parameters = r.parameters }) ≡ true
unfolding room_form form_as prop_form prop_shape
quant_form r x c e f =
    let q : Record = record { kind = r.kind; count = r.count; a = r.a; b = r.b; c = c; parameters = r.parameters } in
    let f' : form_as (quantified x) r ≡ true = subst (λ (K : PropKind). form_as K r ≡ true) e f in
    let g : in_prop_shape (prop_shape (quantified x)) r ≡ true = subst (λ (K : PropKind). in_prop_shape (prop_shape K) r ≡ true) e f' in
    subst⁻¹ (λ (K : PropKind). form_as K q ≡ true) e (subst⁻¹ (λ (K : PropKind). in_prop_shape (prop_shape K) q ≡ true) e g)

-- `copy`, in the order of its code
module _ (old : List ℕ) (c n : ℕ) (ok : Arena old c) (k : n < c) (fit : (tables : ℕ) → c + size (room_at tables old n) ≤ most_records) where
  pub one_fits : c < most_records
  one_fits = omega (arith, fit 0, size_some (room_at 0 old n))

  module _ (long : 16 * most_records ≤ length old) (r : Record) (er : r ≡ record_at old n) where
    pub form_here : room_form r ≡ true
    form_here = subst⁻¹ (λ (s : Record). room_form s ≡ true) er (ok.each n k).form

    pub copy_constant : r.kind < 2 → (d : ℕ) (h : ℕ → Param → Param) (new : List ℕ) (o : Copied) → MoreIs old c r new o → CopiedIs old c n h d new o
    unfolding node walk size all_links prop_children prop_shape
    copy_constant g d h new o m =
        let v = kind_constant r.kind g in
        let whole = stands old c n ok k r er (constant v.0) v.1 in
        top _ _ ok (λ i l. refl) (omega arith) refl one_fits long form_here (links_as (λ m. ltb m c) r (constant v.0) v.1 refl)
        (λ tables. ap (λ (P : Prop). c + size P) (sym (whole tables)))
        (λ tables l.
        ap (λ (K : PropKind). node tables c (room_at tables old) K r) v.1
        ∙ ap (λ (p : Origin). const p v.0) (made_here tables c l)
        ∙ ap (walk copy h d) (sym (whole tables)))
        m

    -- an atom
    module _ (g : 7 ≤ r.kind) where
      pub is_atomic : prop_kind r.kind ≡ atomic
      is_atomic = kind_atomic r.kind g (subst⁻¹ (λ (s : Record). s.kind < 8) er (kind_known (ok.each n k)))

      pub copy_atom : (d : ℕ) (h : ℕ → Param → Param) (q : Record) → AtomIs (h d) r q → (new : List ℕ) (o : Copied) → MoreIs old c q new o → CopiedIs old c n h d new o
      unfolding node walk size all_links prop_children prop_shape
      copy_atom d h q a new o m =
          let whole = stands old c n ok k r er atomic is_atomic in
          let K : prop_kind q.kind ≡ atomic = ap prop_kind a.kind ∙ is_atomic in
          top _ _ ok (λ i l. refl) (omega arith) refl one_fits long a.form (links_as (λ m. ltb m c) q atomic K refl)
          (λ tables. ap (λ (P : Prop). c + size P) (sym (whole tables)))
          (λ tables l.
          ap (λ (K : PropKind). node tables c (room_at tables old) K q) K
          ∙ (λ i. atom (made_here tables c l i) (a.predicate i) (a.means i))
          ∙ ap (walk copy h d) (sym (whole tables)))
          m

    -- two parts
    module _ (lo : 2 ≤ r.kind) (hi : r.kind < 5) where
      abbrev joined : (l : Link) × (prop_kind r.kind ≡ linked l)
      joined = kind_linked r.kind lo hi

      link_whole : (tables : ℕ) → room_at tables old n ≡ link (origin tables n) joined.0 (room_at tables old r.a) (room_at tables old r.b)
      unfolding node
      link_whole tables = stands old c n ok k r er (linked joined.0) joined.1 tables

      link_size : (tables : ℕ) → size (room_at tables old n) ≡ 1 + (size (room_at tables old r.a) + size (room_at tables old r.b))
      unfolding size
      link_size tables = ap size (link_whole tables)

      first_under : r.a < n
      first_under = (at_linked old c n ok k r er lo hi).1.first

      second_under : r.b < n
      second_under = (at_linked old c n ok k r er lo hi).1.second

      pub first_deep : (d : ℕ) → d + n ≤ largest → d + r.a ≤ largest
      first_deep d h = omega (arith, first_under)

      pub second_deep : (d : ℕ) → d + n ≤ largest → d + r.b ≤ largest
      second_deep d h = omega (arith, second_under)

      pub first_room : (tables : ℕ) → c + size (room_at tables old r.a) ≤ most_records
      first_room tables = omega (arith, fit tables, link_size tables)

      module _ (d : ℕ) (h : ℕ → Param → Param) (mid : List ℕ) (o₁ : Copied) (i₁ : CopiedIs old c r.a h d mid o₁) where
        pub first_arena : Arena mid o₁.count
        first_arena = i₁.arena

        pub second_there : r.b < o₁.count
        second_there = omega (arith, second_under, i₁.count 0)

        right : (tables : ℕ) → room_at tables mid r.b ≡ room_at tables old r.b
        right tables = room_same mid ok i₁.same tables r.b (omega (arith, second_under))

        pub second_room : (tables : ℕ) → o₁.count + size (room_at tables mid r.b) ≤ most_records
        second_room tables = omega (arith, fit tables, link_size tables, i₁.count tables, ap size (right tables))

        pub first_long : 16 * most_records ≤ length mid
        first_long = omega (arith, i₁.long)

        module _ (last : List ℕ) (o₂ : Copied) (i₂ : CopiedIs mid o₁.count r.b h d last o₂) where
          link_count : (tables : ℕ) → o₂.count + 1 ≡ c + size (room_at tables old n)
          link_count tables = omega (arith, link_size tables, i₁.count tables, i₂.count tables, ap size (right tables))

          pub link_fits : o₂.count < most_records
          link_fits = omega (arith, fit 0, link_count 0)

          pub second_long : 16 * most_records ≤ length last
          second_long = omega (arith, i₁.long, i₂.long)

          abbrev parent : Record
          parent = record { kind = r.kind; count = r.count; a = o₁.at.0; b = o₂.at.0; c = r.c; parameters = r.parameters }

          parent_form : room_form parent ≡ true
          parent_form = link_form r joined.0 o₁.at.0 o₂.at.0 joined.1 form_here

          parent_links : all_links (λ m. ltb m o₂.count) (prop_links parent) ≡ true
          unfolding all_links prop_children prop_shape
          parent_links =
              links_as (λ m. ltb m o₂.count) parent (linked joined.0) joined.1
              (join _ _ (lt-ltb o₁.at.0 o₂.count (omega (arith, i₁.below, i₂.count 0))) (join _ _ (lt-ltb o₂.at.0 o₂.count i₂.below) refl))

          pub copy_link : (new : List ℕ) (o : Copied) → MoreIs last o₂.count parent new o → CopiedIs old c n h d new o
          unfolding node walk
          copy_link new o m =
              top _ _ i₂.arena (λ i l. i₂.same i (omega (arith, i₁.count 0)) ∙ i₁.same i l) (omega (arith, i₁.count 0, i₂.count 0)) (i₂.long ∙ i₁.long)
              link_fits long parent_form parent_links link_count
              (λ tables l.
              let a : room_at tables last o₁.at.0 ≡ walk copy h d (room_at tables old r.a) =
              room_same last i₁.arena i₂.same tables o₁.at.0 i₁.below ∙ i₁.means tables l in
              let b : room_at tables last o₂.at.0 ≡ walk copy h d (room_at tables old r.b) =
              i₂.means tables (omega (arith, i₁.count 0)) ∙ ap (walk copy h d) (right tables) in
              ap (λ (K : PropKind). node tables o₂.count (room_at tables last) K parent) joined.1
              ∙ (λ i. link (made_here tables o₂.count (omega (arith, i₁.count 0, i₂.count 0)) i) joined.0 (a i) (b i))
              ∙ ap (walk copy h d) (sym (link_whole tables)))
              m

    -- a body
    module _ (lo : 5 ≤ r.kind) (hi : r.kind < 7) where
      abbrev bound_by : (q : Quant) × (prop_kind r.kind ≡ quantified q)
      bound_by = kind_quantified r.kind lo hi

      quant_whole : (tables : ℕ) → room_at tables old n ≡ quant (origin tables n) bound_by.0 r.a r.b (room_at tables old r.c)
      unfolding node
      quant_whole tables = stands old c n ok k r er (quantified bound_by.0) bound_by.1 tables

      quant_size : (tables : ℕ) → size (room_at tables old n) ≡ 1 + size (room_at tables old r.c)
      unfolding size
      quant_size tables = ap size (quant_whole tables)

      under : r.c < n
      under = (at_quantified old c n ok k r er lo hi).1.under

      pub deeper_fits : (d : ℕ) → d + n ≤ largest → d + 1 < 65536
      deeper_fits d h = omega (arith, under)

      pub body_deep : (d : ℕ) → d + n ≤ largest → d + 1 + r.c ≤ largest
      body_deep d h = omega (arith, under)

      pub body_room : (tables : ℕ) → c + size (room_at tables old r.c) ≤ most_records
      body_room tables = omega (arith, fit tables, quant_size tables)

      module _ (d : ℕ) (h : ℕ → Param → Param) (mid : List ℕ) (o₁ : Copied) (i₁ : CopiedIs old c r.c h (d + 1) mid o₁) where
        quant_count : (tables : ℕ) → o₁.count + 1 ≡ c + size (room_at tables old n)
        quant_count tables = omega (arith, quant_size tables, i₁.count tables)

        pub quant_fits : o₁.count < most_records
        quant_fits = omega (arith, fit 0, quant_count 0)

        pub body_long : 16 * most_records ≤ length mid
        body_long = omega (arith, i₁.long)

        abbrev binder : Record
        binder = record { kind = r.kind; count = r.count; a = r.a; b = r.b; c = o₁.at.0; parameters = r.parameters }

        binder_form : room_form binder ≡ true
        binder_form = quant_form r bound_by.0 o₁.at.0 bound_by.1 form_here

        binder_links : all_links (λ m. ltb m o₁.count) (prop_links binder) ≡ true
        unfolding all_links prop_children prop_shape
        binder_links =
            links_as (λ m. ltb m o₁.count) binder (quantified bound_by.0) bound_by.1
            (join _ _ (lt-ltb o₁.at.0 o₁.count i₁.below) refl)

        pub copy_quant : (new : List ℕ) (o : Copied) → MoreIs mid o₁.count binder new o → CopiedIs old c n h d new o
        unfolding node walk
        copy_quant new o m =
            let deeper : d + 1 ≡ suc d = omega arith in
            top _ _ i₁.arena i₁.same (omega (arith, i₁.count 0)) i₁.long quant_fits long binder_form binder_links quant_count
            (λ tables l.
            let b : room_at tables mid o₁.at.0 ≡ walk copy h (suc d) (room_at tables old r.c) =
            i₁.means tables l ∙ ap (λ (j : ℕ). walk copy h j (room_at tables old r.c)) deeper in
            ap (λ (K : PropKind). node tables o₁.count (room_at tables mid) K binder) bound_by.1
            ∙ (λ i. quant (made_here tables o₁.count (omega (arith, i₁.count 0)) i) bound_by.0 r.a r.b (b i))
            ∙ ap (walk copy h d) (sym (quant_whole tables)))
            m
