-- `reading::keeps_rules` meets its contract.
use mathlib.Core.Path.{◌∙◌}
use native.Mathlib.Omega.{arith}
use Rattle.model.specs.Map.{crossed}
use Rattle.theorems.proofs.Calls.Pass.{dim_pass}
use Rattle.reading.specs.Near.{turned}
use Rattle.reading.proofs.Rules.{rules_flat, rules_solid, keeps_rules_lem}
use Rattle.reading.proofs.keeps_rules.Goals as goal

pub returns-then-n-eq2 : goal.returns-then-n-eq2
returns-then-n-eq2 c =
    let a = c.args in
    rw (c.turned.ensures, c.turned-2.ensures, c.turned-3.ensures, c.turned-4.ensures)
    (rw (c.crossed.ensures, c.link.ensures)
    (rules_flat a.n (turned a.table.now a.d) (crossed a.table.now a.d) _ c.if-n-eq2.true
    ∙ keeps_rules_lem a.n a.table.now a.d (dim_pass a.n c.requires.0) (λ q. omega arith)))

pub returns-else-n-eq2 : goal.returns-else-n-eq2
returns-else-n-eq2 c =
    let a = c.args in
    rw (c.turned.ensures, c.turned-2.ensures, c.turned-3.ensures, c.turned-4.ensures)
    (rw (c.crossed.ensures, c.crossed-else-n-eq2.ensures, c.crossed-else-n-eq2-2.ensures)
    (rules_solid a.n (turned a.table.now a.d) (crossed a.table.now a.d) _ c.if-n-eq2.false
    ∙ keeps_rules_lem a.n a.table.now a.d (dim_pass a.n c.requires.0) (λ q. omega arith)))
