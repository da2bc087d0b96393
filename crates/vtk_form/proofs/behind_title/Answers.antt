-- `vtk_form::behind_title` meets its contract, by the version.
use Prim.Native.Nat.{ℕ}
use mathlib.Core.Path.{sym, ◌∙◌, subst}
use mathlib.Core.List.{List}
use mathlib.Core.Option.{Option}
use Rattle.vtk_form.specs.Parts.{LineOf}
use Rattle.vtk_form.proofs.Lines.{title_two, title_three, title_none}
use Rattle.vtk_form.proofs.behind_title.Goals as goal
use Rattle.vtk_form.proofs.behind_title.Goals.{then-begins-via-then-begins, then-begins-via-else-begins+then-begins-2}

pub returns-then-begins : goal.returns-then-begins
returns-then-begins c =
    let text = c.args.text.now in
    elim c.then-begins.branch [
      | then-begins-via-then-begins w ↦
          let title = title_two text (sym c.begins.ensures ∙ w.if-begins.true) in
          subst (λ (o : Option (List ℕ)). LineOf text o c.behind_line.result) (sym title) c.behind_line.ensures
      | then-begins-via-else-begins+then-begins-2 w ↦
          let two = sym c.begins.ensures ∙ w.if-begins.false in
          let title = title_three text two (sym w.begins-else-begins.ensures ∙ w.if-begins-2.true) in
          subst (λ (o : Option (List ℕ)). LineOf text o c.behind_line.result) (sym title) c.behind_line.ensures
    ]

pub returns : goal.returns
returns c =
    title_none c.args.text.now (sym c.begins.ensures ∙ c.if-begins.false) (sym c.begins-else-begins.ensures ∙ c.if-begins-2.false)
