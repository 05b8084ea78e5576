-- Kinds past the last known one. Assumes nothing.
use mathlib.Core.Path.{◌≡◌}
use Prim.Native.Nat.{ℕ, zero, suc, ◌≤◌}
use native.Mathlib.Omega.{arith}
use lib.ListN.{get_or-eq_default}
use Rattle.layout.specs.File.{prop_kinds, prop_kind, strange, kinds, kind_of, Strange}

pub strange_prop : (k : ℕ) → 8 ≤ k → prop_kind k ≡ strange
unfolding prop_kinds prop_kind
strange_prop k h = get_or-eq_default prop_kinds strange h

pub strange_term : (k : ℕ) → 14 ≤ k → kind_of k ≡ Strange
unfolding kinds kind_of
strange_term k h = get_or-eq_default kinds Strange h

-- what a match's last arm knows: the number is none of the first n
abbrev pub Nots : ℕ → ℕ → Type 0
Nots k zero = Unit {0}
Nots k (suc n) = Nots k n × (k ≡ n → ⊥)

pub past : (k n : ℕ) → Nots k n → n ≤ k
past k zero h = omega arith
past k (suc n) h = let i : n ≤ k = past k n h.0 in let j : k ≡ n → ⊥ = h.1 in omega arith
