-- What does the walk's answer say in the paper's words?
use Rattle.meaning.specs.Page.{Page}
use Rattle.std.specs.Prelude.{length}
use Rattle.step.specs.declared.Listed.{Listed}

-- how many plans stand on the page, and whether there are more
abbrev pub listed_as : Page → Listed
listed_as g = record { count = length g.written; more = g.more }
