-- What a list holds.
use Rattle.std.specs.Prelude.{List, take, drop}
use Rattle.lines.specs.declared.list.OrderedList.{OrderedList}

module _ {L : Type 0} where
  -- the memory that was lent
  abbrev pub memory : OrderedList L → List L
  memory list = list.lines.now

  -- the lines of the list, from the first on
  abbrev pub contents : OrderedList L → List L
  contents list = take list.count (memory list)

  -- the memory past them
  abbrev pub spare : OrderedList L → List L
  spare list = drop list.count (memory list)
