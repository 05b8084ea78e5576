-- How the code copies records into the edited table: so many of them in a row, each as it is or with its links moved.
-- Assumes nothing.
use Rattle.std.specs.Prelude.{◌≡◌, List, ℕ, ◌+◌, ◌<◌, ◌≤◌, length}
use Rattle.numbers.specs.declared.record.Record.{Record}
use Rattle.numbers.specs.Limits.{most_propositions, most_terms}
use Rattle.numbers.specs.Records.{record_at}
use Rattle.layout.specs.File.{terms, as_term}
use Rattle.table.specs.Links.{prop_links, term_links, annotation, hits}
use Rattle.editing.specs.Edited.{term_bytes, Joined}

-- NO NUMBER OVERFLOWS when it is moved: the links, and the counts of the table that they come to, are within a table's limits
abbrev pub Within : ℕ → List ℕ → Type 0
Within most ms = (m : ℕ) → 0 < hits m ms → m ≤ most

pub record PropMoves (p : ℕ) (r : Record) : Type 0 where
  pub room : p ≤ most_propositions
  pub links : Within most_propositions (prop_links r)

pub record TermMoves (p t : ℕ) (r : Record) : Type 0 where
  pub room : p ≤ most_propositions
  pub some : 1 ≤ t
  pub few : t ≤ most_terms
  pub links : Within most_terms (term_links (as_term r))
  pub typ : Within most_propositions (annotation (as_term r))

-- n RECORDS IN A ROW of the list src, from number `first` on, stand in `new` from number `to` on, changed by g; those before them are as in `old`
pub record Copied (g : Record → Record) (src : List ℕ) (first n : ℕ) (old : List ℕ) (to : ℕ) (new : List ℕ) : Type 0 where
  pub size : length new ≡ length old
  pub here : (i : ℕ) → i < n → record_at new (to + i) ≡ g (record_at src (first + i))
  pub before : (m : ℕ) → m < to → record_at new m ≡ record_at old m

-- what is done to each of them, as `done` says it, is g
abbrev pub ChangesRow : (done : Record → Record → Type 0) (g : Record → Record) (src : List ℕ) (first n : ℕ) → Type 0
ChangesRow done g src first n = (i : ℕ) (r m : Record) → i < n → r ≡ record_at src (first + i) → done r m → m ≡ g r

-- ALL ROWS: the table joined with the filling f while every term of the old one, a Sorry record too, is as it was
abbrev pub Waiting : (old f e : List ℕ) → Type 0
Waiting old f e = (q : ℕ) → q < terms old → Joined old f q (term_bytes old q) e
