-- The limits of document 01's file format, by the names that the number types' constants have, and the largest number of two bytes.
-- Assumes nothing.
use Rattle.std.specs.Prelude.{ℕ}

-- propositions and terms of a table
abbrev pub most_propositions : ℕ
most_propositions = 1024

abbrev pub most_terms : ℕ
most_terms = 512

-- the height of a proposition, the depth of a term
abbrev pub most_height : ℕ
most_height = 32

abbrev pub most_depth : ℕ
most_depth = 64

-- a field that holds no number
abbrev pub none : ℕ
none = 65535

-- the largest 16-bit number: no count passes it
abbrev pub largest : ℕ
largest = 65535
