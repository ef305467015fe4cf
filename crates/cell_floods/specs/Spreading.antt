-- The state of a flood whose nodes take turns by height. In its turn a node gets a level and a
-- label, or it waits until a node beside it has them.
-- Private.
use Rattle.std.specs.Prelude.{◌≡◌, ℕ, ◌+◌, ◌*◌, ◌<◌, ◌≤◌, ◌⊎◌, ℤ, ◌≤ℤ◌, leb, List, length, map, Option, None, Some, IsSome, slice_index_or, unwrap_or}
use Rattle.std.specs.Int.{int_max}
use Rattle.std.specs.List.{All, count_by}
use Rattle.terrain.specs.StoredCells.{no_data}
use Rattle.tiles.specs.declared.bounds.Bounds.{Bounds}
use Rattle.floods.specs.declared.net.Spill.{Spill}
use Rattle.floods.specs.Flood.{entry_of}
use Rattle.floods.specs.Notes.{height_or_lack, no_label, numbered_labels}
use Rattle.floods.specs.Walk.{IsFlooded, IsWalk, walk_crest, last_node}
use Rattle.cell_floods.specs.Cells.{Cells, IsBeside, IsCellJoin, cell_at, cells_around, inner_rows, source_of}
use Rattle.cell_floods.specs.declared.spreading.Spreading.{Spreading}
use Rattle.cell_floods.specs.declared.tile.Meeting.{Meeting}

-- The number stored for a node that waits, the least that stores no label.
abbrev pub waiting : ℕ
waiting = 4294967293

-- The number stored for a source before its turn.
abbrev pub source_number : ℕ
source_number = 4294967294

-- The number stored for node a.
abbrev pub number_of : List ℕ → ℕ → ℕ
number_of labels a = slice_index_or labels a no_label

-- The number stored for node a is a label.
abbrev pub HasLabel : List ℕ → ℕ → Type 0
HasLabel labels a = number_of labels a < waiting

-- Some walk from node a has this crest and ends at this label.
abbrev pub HasWalkTo : Cells → ℕ → ℤ → ℕ → Type 0
HasWalkTo n a level label = (walk : List Spill) × IsWalk (IsCellJoin n) (source_of n) a walk
    × (walk_crest (source_of n) a walk ≡ level) × (last_node a walk ≡ label)

-- A flood that has come to the level `now`. A labelled node has a level, at most `now`, and a walk
-- of that crest to its label. Any other node has its height as level. A source has its height as
-- level and, from its turn on, itself as label.
pub record IsPart (now : ℤ) (n : Cells) (levels : List (Option ℤ)) (labels : List ℕ) : Type 0 where
  pub levels_size : length levels ≡ length n.cells
  pub labels_size : length labels ≡ length n.cells
  pub few : length n.cells ≤ waiting
  pub reached : (a : ℕ) → HasLabel labels a → (level : ℤ) × (entry_of levels a ≡ Some level)
      × (level ≤ℤ now) × HasWalkTo n a level (number_of labels a)
  pub rest : (a : ℕ) → waiting ≤ number_of labels a → entry_of levels a ≡ cell_at n a
  pub sources : (a : ℕ) (h : ℤ) → source_of n a ≡ Some h → (entry_of levels a ≡ Some h)
      × ((number_of labels a ≡ a) ⊎ (number_of labels a ≡ source_number))
  pub only : (a : ℕ) → number_of labels a ≡ source_number → IsSome (source_of n a)

-- `IsPart` holds for the lists of the state.
abbrev pub IsPartFlood : ℤ → Spreading → Type 0
IsPartFlood now x = IsPart now x.net.now x.levels.items x.labels.items

-- Two joined nodes have the labels of the meeting, which are nodes too. The greater of their levels
-- is that of the meeting.
pub record IsNodeMeeting (n : Cells) (levels : List (Option ℤ)) (labels : List (Option ℕ))
    (m : Meeting) : Type 0 where
  pub from : ℕ
  pub to : ℕ
  pub height : ℤ
  pub from_level : ℤ
  pub to_level : ℤ
  pub join : IsCellJoin n from to height
  pub from_label : slice_index_or labels from None ≡ Some m.from
  pub to_label : slice_index_or labels to None ≡ Some m.to
  pub from_is : entry_of levels from ≡ Some from_level
  pub to_is : entry_of levels to ≡ Some to_level
  pub greater : int_max from_level to_level ≡ m.level

-- The meeting is one of two labels of the state.
abbrev pub IsLabelMeeting : Spreading → Meeting → Type 0
IsLabelMeeting x m = (m.from < waiting) × (m.to < waiting)
    × IsNodeMeeting x.net.now x.levels.items (numbered_labels x.labels.items) m

-- Each meeting of the state's list is one of two labels.
abbrev pub AreMeetings : Spreading → Type 0
AreMeetings x = All (IsLabelMeeting x) x.meetings.items

-- The flood has come to the level `now`: what it found holds.
pub record IsSound (now : ℤ) (x : Spreading) : Type 0 where
  pub part : IsPartFlood now x
  pub meetings : AreMeetings x

-- No node has a label. Only sources are stored as such, and all of those below `count`.
pub record HasSources (count : ℕ) (n : Cells) (labels : List ℕ) : Type 0 where
  pub size : length labels ≡ length n.cells
  pub none : (a : ℕ) → waiting ≤ number_of labels a
  pub every : (a : ℕ) (h : ℤ) → a < count → source_of n a ≡ Some h →
      number_of labels a ≡ source_number
  pub only : (a : ℕ) → number_of labels a ≡ source_number → IsSome (source_of n a)

-- A node beside node `to` has this label and the level `now`.
pub record IsBesideLabel (now : ℤ) (label to : ℕ) (x : Spreading) : Type 0 where
  pub node : ℕ
  pub beside : IsBeside x.net.now.stride node to
  pub labelled : HasLabel x.labels.items node
  pub label_is : number_of x.labels.items node ≡ label
  pub level_is : entry_of x.levels.items node ≡ Some now

-- One of these nodes has this number.
abbrev pub IsNumberOf : List ℕ → List ℕ → ℕ → Type 0
IsNumberOf labels nodes number =
    (k : ℕ) × (k < length nodes) × (number_of labels (slice_index_or nodes k 0) ≡ number)

-- What is left to do: two for each node without a label, and one for each woken one.
abbrev pub work_of : Spreading → ℕ
work_of x = 2 * count_by (leb waiting) x.labels.items + length x.woken.items

-- Labelled nodes keep their levels and labels.
abbrev pub Keeps : Spreading → Spreading → Type 0
Keeps old new = (a : ℕ) → HasLabel old.labels.items a →
    (entry_of new.levels.items a ≡ entry_of old.levels.items a)
    × (number_of new.labels.items a ≡ number_of old.labels.items a)

-- Nodes got labels while the flood was at the level `now`.
pub record Spreads (now : ℤ) (old new : Spreading) : Type 0 where
  pub net : new.net.now ≡ old.net.now
  pub sound : IsSound now new
  pub kept : Keeps old new
  pub work : work_of new ≤ work_of old

-- The level of node a as a number, that of no data for a node without data.
abbrev pub level_of : Spreading → ℕ → ℤ
level_of x a = unwrap_or (entry_of x.levels.items a) no_data

-- Each data cell has a label, and each other cell no number of another kind.
abbrev pub AreLabelled : Cells → List ℕ → Type 0
AreLabelled n labels = (a : ℕ) → a < length n.cells →
    HasLabel labels a ⊎ ((cell_at n a ≡ None) × (number_of labels a ≡ no_label))

-- Node b is not below this level.
abbrev pub IsNoneBelow : ℤ → List (Option ℤ) → ℕ → Type 0
IsNoneBelow level levels b = level ≤ℤ unwrap_or (entry_of levels b) no_data

-- Node a has its height as level, or no lower node around it.
abbrev pub IsHeld : Cells → List (Option ℤ) → ℕ → Type 0
IsHeld n levels a = (entry_of levels a ≡ cell_at n a)
    ⊎ All (IsNoneBelow (unwrap_or (entry_of levels a) no_data) levels) (cells_around n.stride a)

-- Inside the border of the net's lists, the numbers store the levels and labels of a flood, whose
-- labels have these meetings.
pub record AreFlooded (n : Cells) (b : Bounds) (heights : List ℤ) (nodes : List ℕ)
    (meetings : List Meeting) : Type 0 where
  pub levels : List (Option ℤ)
  pub labels : List (Option ℕ)
  pub flooded : IsFlooded (IsCellJoin n) (source_of n) (length n.cells) levels labels
  pub meetings_are : All (IsNodeMeeting n levels labels) meetings
  pub heights_are : heights ≡ map height_or_lack (inner_rows levels b.cols b.rows)
  pub nodes_are : numbered_labels nodes ≡ inner_rows labels b.cols b.rows

-- The net is that of a rectangle with these bounds, of at most 4,096 rows and columns.
abbrev pub HasSizeOf : Bounds → Cells → Type 0
HasSizeOf b n =
    (length n.cells ≡ (b.rows + 2) * (b.cols + 2)) × (b.rows ≤ 4096) × (b.cols ≤ 4096)
