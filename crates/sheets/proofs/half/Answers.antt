-- `sheets::half` meets its contract.
use mathlib.Core.Path.{sym}
use Rattle.sheets.proofs.Halves.{half_solid, half_flat}
use Rattle.sheets.proofs.half.Goals as goal

pub returns-then-n-eq3 : goal.returns-then-n-eq3
returns-then-n-eq3 c = sym (half_solid _ c.if-n-eq3.true)

pub returns-else-n-eq3 : goal.returns-else-n-eq3
returns-else-n-eq3 c = sym (half_flat _ c.if-n-eq3.false)
