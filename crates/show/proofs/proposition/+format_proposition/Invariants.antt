-- A part has a smaller number.
use Rattle.show.proofs.proposition.+format_proposition.Given as goal

abbrev pub decreases-format_proposition : goal.decreases-format_proposition
decreases-format_proposition g l = l.n
