-- What is said of the sources: which new darts are made from them (`OfSplit`, `OfInsert`, `OfEither`), that a new dart has the links
-- (`SplitLinked`, `InsertLinked`, `Linked`), and how far the record of the change is drafted (`DraftsTo`, `MetDarts`, `MetNew`).
use Rattle.std.specs.Prelude.{ℕ, Bool, List}
use Rattle.model.specs.NewDarts.{new_dart}
use Rattle.model.specs.Split.{split_table}
use Rattle.model.specs.Insert.{insert_table}
use Rattle.model.specs.Meaning.Splits.{new_of}
use Rattle.model.specs.Meaning.Walls.{layer_dart}
use Rattle.new_darts.specs.declared.Sources.{Sources}
use Rattle.new_darts.specs.News.{Made, NewLinks}
use Rattle.new_darts.specs.Roles.{SplitRole, SomeSplitRole, LayerRole, SomeLayerRole, Role, SomeRole}
use Rattle.new_darts.specs.Drafting.{Writing, SomeWriting, Drafting, ToDarts, DartsMet, ToNew, NewMet}

-- they are those of split d, and g is a dart of S
abbrev pub OfSplit : Sources → ℕ → ℕ → ℕ → Type 0
OfSplit s d role g = SplitRole s.n s.table.now d s.fresh.now s.places.now role g

abbrev pub OfSomeSplit : Sources → ℕ → ℕ → Type 0
OfSomeSplit s role g = SomeSplitRole s.n s.table.now s.fresh.now s.places.now role g

-- these are the links of the new dart that g gets by split d
abbrev pub SplitLinked : Sources → ℕ → ℕ → ℕ → List ℕ → Type 0
SplitLinked s d role g links = NewLinks (split_table s.n s.table.now d) (new_of s.n s.table.now d role g) links

-- they are those of insert along the wall m, and h is a dart of it
abbrev pub OfInsert : Sources → List ℕ → ℕ → ℕ → Type 0
OfInsert s m role h = LayerRole s.n s.table.now m s.fresh.now s.places.now s.nexts.now role h

abbrev pub OfSomeInsert : Sources → ℕ → ℕ → Type 0
OfSomeInsert s role h = SomeLayerRole s.n s.table.now s.fresh.now s.places.now s.nexts.now role h

-- these are the links of the new dart that h gets by insert
abbrev pub InsertLinked : Sources → List ℕ → ℕ → ℕ → List ℕ → Type 0
InsertLinked s m role h links = NewLinks (insert_table s.n s.table.now m) (layer_dart s.n s.table.now m role h) links

-- of either
abbrev pub OfEither : Sources → Bool → Made → ℕ → ℕ → Type 0
OfEither s insert M role g = Role s.n insert s.table.now M s.fresh.now s.places.now s.nexts.now role g

abbrev pub OfSome : Sources → Bool → ℕ → ℕ → Type 0
OfSome s insert role g = SomeRole s.n insert s.table.now s.fresh.now s.places.now s.nexts.now role g

abbrev pub Linked : Sources → Made → ℕ → ℕ → List ℕ → Type 0
Linked s M role g links = NewLinks M.table (new_dart s.n M.olds M.news role g) links

-- ---- the record: j is what it is drafted in, w what that is now

-- it can be drafted
abbrev pub Drafts : Sources → Bool → Made → List ℕ → Type 0
Drafts s insert M j = Writing s.n insert s.table.now M s.nexts.now s.darts.now s.fresh.now s.places.now s.size j

abbrev pub SomeDrafts : Sources → Bool → List ℕ → Type 0
SomeDrafts s insert j = SomeWriting s.n insert s.table.now s.nexts.now s.darts.now s.fresh.now s.places.now s.size j

-- p old darts and q new ones are met
abbrev pub DraftsTo : Sources → Bool → Made → List ℕ → List ℕ → ℕ → ℕ → ℕ → List ℕ → Type 0
DraftsTo s insert M nexts j p q at w = Drafting s.n insert s.table.now M nexts s.darts.now s.fresh.now s.places.now s.size j p q at w

-- the old darts below x come next, and then they are met
abbrev pub SomeToDarts : Sources → Bool → ℕ → ℕ → ℕ → List ℕ → Type 0
SomeToDarts s insert p at x w = ToDarts s.n insert s.table.now s.darts.now s.fresh.now s.places.now s.size p at x w

abbrev pub MetDarts : Sources → Bool → Made → List ℕ → List ℕ → ℕ → ℕ → ℕ → ℕ → ℕ → List ℕ → Type 0
MetDarts s insert M nexts j p q at x r w =
    DartsMet s.n insert s.table.now M nexts s.darts.now s.fresh.now s.places.now s.size j p q at x r w

-- the new dart of the i-th dart with this role comes next, and then it is met
abbrev pub SomeToNew : Sources → Bool → ℕ → ℕ → ℕ → ℕ → List ℕ → Type 0
SomeToNew s insert p at i role w = ToNew s.n insert s.table.now s.nexts.now s.darts.now s.fresh.now s.places.now s.size p at i role w

abbrev pub MetNew : Sources → Bool → Made → List ℕ → ℕ → ℕ → ℕ → ℕ → List ℕ → Type 0
MetNew s insert M j p q at r w = NewMet s.n insert s.table.now M s.nexts.now s.darts.now s.fresh.now s.places.now s.size j p q at r w
