-- What a request finds, and what it leaves.
use Rattle.std.specs.Prelude.{ℕ, true, false, List, eqb}
use Rattle.model.specs.Calls.{Outcome, pick_taken, sew_list_call}
use Rattle.model.specs.Runs.{Op, Call, do_call, keeping}
use Rattle.model.specs.Session.{call_of}

-- the table, marks and journal, with no answer yet
abbrev pub lent_to : List ℕ → List ℕ → List ℕ → Outcome
lent_to t m j = record { number = 0; place = 0; count = 0; table = t; marks = m; journal = j }

-- what any call leaves of o: the session's by the places of their names, and behind them insert, along the wall that the marks draw,
-- sew_list, of the list l, pick, over the queue w, and read_vtk, of the text x
unfoldable pub any_outcome : ℕ → Outcome → ℕ → ℕ → ℕ → ℕ → ℕ → List ℕ → List ℕ → List ℕ → Outcome
any_outcome n o p tag i d e l w x =
    elim (eqb p 10) [
      | true ↦ do_call n o (Call.op tag (Op.insert o.marks))
      | false ↦ (elim (eqb p 11) [
        | true ↦ (let r = sew_list_call n o.table o.journal tag l in keeping r o.marks r.journal)
        | false ↦ (elim (eqb p 12) [
          | true ↦ do_call n o (Call.pick w d)
          | false ↦ (elim (eqb p 13) [ true ↦ do_call n o (Call.op tag (Op.vtk x)) | false ↦ do_call n o (call_of p tag i d e) ])
        ])
      ])
    ]

-- how many darts pick takes off its queue w; of every other call 0
unfoldable pub any_taken : ℕ → List ℕ → List ℕ → ℕ → ℕ → List ℕ → ℕ
any_taken n t m p d w = elim (eqb p 12) [ true ↦ pick_taken n t m w d | false ↦ 0 ]
