-- The least crests of any net of labels (`IsLabelNet`) raise levels to the filled heights.
use Rattle.std.proofs.Common.{◌≡◌, ℕ, ◌<◌, inl, inr, ℤ, ◌≤ℤ◌, List, [], ◌∷◌, length, get_or, Option, None, Some, is_some, ◌∙◌, sym, ap, subst, refl, arith}
use Rattle.std.specs.Prelude.{slice_get, option_and_then, ◌≢◌}
use Rattle.std.specs.Int.{int_max}
use Rattle.std.proofs.lemmas.Bool.{cases_eq}
use Rattle.std.proofs.lemmas.Option.{MatchOption-at_some, MatchOption-at_none, same_Some, slice_get_cases}
use Rattle.terrain.proofs.Orders.{max_left, max_right, max_least, trans, le_of_same}
use Rattle.terrain.specs.Raster.{Terrain}
use Rattle.terrain.specs.Neighbours.{height_at, IsDataCell, IsNeighbour, IsEnd, height_of}
use Rattle.terrain.specs.declared.place.Place.{Place}
use Rattle.drainage.specs.Filled.{IsPath, crest, IsFilledHeight}
use Rattle.drainage.proofs.Heights.{first_is_data, height_below_crest}
use Rattle.drainage.proofs.Uniqueness.{between}
use Rattle.drainage.proofs.FilledExists.{filled_height}
use Rattle.drainage.proofs.Reach.{HasLowPath}
use Rattle.tiles.specs.Cutting.{Cutting, IsCutting, IsWithin, tile_of_place}
use Rattle.tiles.proofs.Cut.{in_bounds, tile_of_place_below}
use Rattle.floods.specs.declared.net.Spill.{Spill}
use Rattle.floods.specs.Walk.{Joins, Sources, IsWalk, walk_crest, IsFlooded}
use Rattle.cell_floods.specs.TileFlood.{IsTileSource, IsTilePath, IsTileLevel, Flood, level_in}
use Rattle.cell_floods.specs.Cells.{last_cell}
use Rattle.fill.specs.SpillGraph.{AreFloods, level_among, label_among}
use Rattle.terrain.proofs.Options.{cases_option, none_some}
use Rattle.terrain.proofs.Heights.{height_is}
use Rattle.cell_floods.proofs.Rectangles.{data_is, path_in_rectangle}
use Rattle.cell_floods.proofs.TileRectangles.{data_within, tile_path}

-- The level and the label of a cell in the flood of its tile.
pub record HasTileLevel (t : Terrain) (c : Cutting) (floods : List Flood) (p : Place) : Type 0 where
  pub level : ℤ
  pub label : Place
  pub level_is : level_among c floods p ≡ Some level
  pub label_is : label_among c floods p ≡ Some label
  pub right : IsTileLevel t c p level label

pub list_there : {X : Type 0} (xs : List X) (i : ℕ) → i < length xs → (x : X) × (slice_get xs i ≡ Some x)
list_there xs i below = elim (slice_get_cases xs i).1 [
  | inl found ↦ (found.0, found.2)
  | inr past ↦ absurd (omega arith)
]

pub among_is : {X : Type 0} (look : Flood → Option X) (floods : List Flood) (tile : ℕ) {f : Flood} →
    slice_get floods tile ≡ Some f → option_and_then look (slice_get floods tile) ≡ look f
among_is look floods tile e = cc

module _ (t : Terrain) where
  module _ {c : Cutting} {floods : List Flood} (h : IsCutting c) (are : AreFloods t c floods) (p : Place) where
    pub has_tile_level : IsDataCell t p → HasTileLevel t c floods p
    has_tile_level some =
        let within = data_within t c p are.cuts some in
        let tile = tile_of_place c p in
        let f = list_there floods tile (omega (arith, are.count, tile_of_place_below c p h within)) in
        let height = data_is _ some in
        let here = MatchOption-at_some _ _ _ height.1 ((are.each tile f.0 f.1).each p (within, refl)) in
        record {
          level = here.0;
          label = here.1;
          level_is = among_is _ floods tile f.1 ∙ here.2;
          label_is = among_is _ floods tile f.1 ∙ here.3;
          right = here.4;
        }

    pub level_has_data : {l : ℤ} → IsWithin c p → level_among c floods p ≡ Some l → IsDataCell t p
    level_has_data {l} within e = elim (cases_option (height_at t p)) [
      | inr found ↦ cc
      | inl none ↦
          let tile = tile_of_place c p in
          let f = list_there floods tile (omega (arith, are.count, tile_of_place_below c p h within)) in
          none_some _ l (among_is (λ f. level_in f p) floods tile f.1 ∙
          (MatchOption-at_none _ _ none ((are.each tile f.0 f.1).each p (within, refl))).0) e
    ]

  -- A low path has a crest of at most m. If a neighbour of a cell of height at most m has a low path,
  -- so has the cell.
  pub low_step : (m : ℤ) {p q : Place} → IsNeighbour t p q → height_of t p ≤ℤ m → HasLowPath t m q → HasLowPath t m p
  low_step m {p} {q} next low way = (q ∷ way.0, (next, way.1), max_least _ _ m low way.2)

  pub low_below : (m n : ℤ) (p : Place) → m ≤ℤ n → HasLowPath t m p → HasLowPath t n p
  low_below m n p le way = (way.0, way.1, trans _ _ _ way.2 le)

  pub neighbour_back : {p q : Place} → IsNeighbour t p q → IsNeighbour t q p
  neighbour_back n = record {
    different = λ e. n.different (sym e);
    touches = record {
      row_down = n.touches.row_up;
      row_up = n.touches.row_down;
      col_right = n.touches.col_left;
      col_left = n.touches.col_right;
    };
    from_data = n.to_data;
    to_data = n.from_data;
  }

  module _ (c : Cutting) where
    -- If the first cell of a tile path of low crest has a low path, so has the last.
    low_at_last : (m : ℤ) (p : Place) (rest : List Place) → IsTilePath t c p rest → crest t p rest ≤ℤ m →
        HasLowPath t m p → HasLowPath t m (last_cell p rest)
    low_at_last m p [] path low way = way
    low_at_last m p (q ∷ rest) path low way =
        let later = trans _ _ _ (max_right (height_of t p) (crest t q rest)) low in
        low_at_last m q rest path.2 later
        (low_step m (neighbour_back path.0) (trans _ _ _ (height_below_crest t q rest) later) way)

    low_at_first : (m : ℤ) (p : Place) (rest : List Place) → IsTilePath t c p rest → crest t p rest ≤ℤ m →
        HasLowPath t m (last_cell p rest) → HasLowPath t m p
    low_at_first m p [] path low way = way
    low_at_first m p (q ∷ rest) path low way =
        low_step m path.0 (trans _ _ _ (max_left (height_of t p) (crest t q rest)) low)
        (low_at_first m q rest path.2 (trans _ _ _ (max_right (height_of t p) (crest t q rest)) low) way)

    module _ {p label : Place} {level : ℤ} (l : IsTileLevel t c p level label) where
      -- If a cell whose level is at most m has a low path, so has its label.
      pub low_at_label : (m : ℤ) → level ≤ℤ m → HasLowPath t m p → HasLowPath t m label
      low_at_label m le way =
          subst (HasLowPath t m) l.reached.3 (low_at_last m p _ l.reached.1 (subst (λ z. z ≤ℤ m) (cc) le) way)

      pub low_from_label : (m : ℤ) → level ≤ℤ m → HasLowPath t m label → HasLowPath t m p
      low_from_label m le way =
          low_at_first m p _ l.reached.1 (subst (λ z. z ≤ℤ m) (cc) le) (subst (HasLowPath t m) (cc) way)

      pub level_high : height_of t p ≤ℤ level
      level_high = rw l.reached.2 at (height_below_crest t p l.reached.0)

    -- A cell's level is at most the crest of each of its paths.
    level_low : {floods : List Flood} → IsCutting c → AreFloods t c floods → {p : Place} (l : HasTileLevel t c floods p)
        (rest : List Place) → IsPath t p rest → l.level ≤ℤ crest t p rest
    level_low h are {p} l rest path =
        let within = data_within t c p are.cuts (first_is_data t p rest path) in
        let tile = tile_of_place c p in
        let inner = path_in_rectangle t _ p rest (in_bounds c tile p h (within, refl)) path in
        trans _ _ _
        (l.right.least inner.0 (tile_path t c tile h (tile_of_place_below c p h within) p _ (within, refl) inner.1))
        inner.2

    module _ {p label : Place} {level : ℤ} (l : IsTileLevel t c p level label) where
      pub source_level : IsTileSource t c p → level ≡ height_of t p
      source_level source = between _ _ (l.least [] source) (level_high l)

      pub end_label : IsEnd t p → label ≡ p
      end_label end =
          let height = data_is (height_at t p) (first_is_data t p [] end) in
          l.own (inr end) (cc (height_is t p height.0 height.1, source_level (inr end)))

-- Two neighbouring cells have labels of numbers `a` and `b`. The greater of their levels is
-- `height`.
pub record AreMeeting (t : Terrain) (c : Cutting) (floods : List Flood) (number : Place → Option ℕ)
    (a b : ℕ) (height : ℤ) : Type 0 where
  pub from : Place
  pub to : Place
  pub from_level : ℤ
  pub to_level : ℤ
  pub neighbours : IsNeighbour t from to
  pub from_number : number from ≡ Some a
  pub to_number : number to ≡ Some b
  pub from_is : level_among c floods from ≡ Some from_level
  pub to_is : level_among c floods to ≡ Some to_level
  pub greater : int_max from_level to_level ≡ height

-- The nodes of a net are numbers of labels. Different labels of two neighbouring cells have a join
-- no higher than the greater of the cells' levels. Each join is that of two neighbouring cells, and
-- the sources are the labels that are end cells.
pub record IsLabelNet (t : Terrain) (c : Cutting) (floods : List Flood) (number : Place → Option ℕ)
    (joins : Joins) (source : Sources) : Type 0 where
  pub some : (p : Place) → IsDataCell t p → (a : ℕ) × (number p ≡ Some a)
  pub one : (p q : Place) (a : ℕ) → number p ≡ Some a → number q ≡ Some a →
      label_among c floods p ≡ label_among c floods q
  pub joined : (a b : ℕ) (h : ℤ) → a ≢ b → (x : AreMeeting t c floods number a b h) →
      (low : ℤ) × joins a b low × (low ≤ℤ h)
  pub joined_only : (a b : ℕ) (h : ℤ) → joins a b h → AreMeeting t c floods number a b h
  pub end_source : (p : Place) (a : ℕ) (h : ℤ) → IsEnd t p → label_among c floods p ≡ Some p →
      number p ≡ Some a → height_at t p ≡ Some h → source a ≡ Some h
  pub source_end : (p : Place) (a : ℕ) (h : ℤ) → IsDataCell t p → number p ≡ Some a →
      source a ≡ Some h → (e : Place) × (label_among c floods p ≡ Some e) × IsEnd t e
      × (height_at t e ≡ Some h)

module _ (t : Terrain) (c : Cutting) (floods : List Flood) (h : IsCutting c) (are : AreFloods t c floods)
    (number : Place → Option ℕ) (joins : Joins) (source : Sources)
    (net : IsLabelNet t c floods number joins source) where
  abbrev HasLowWalk : ℕ → ℤ → Type 0
  HasLowWalk a m = (walk : List Spill) × IsWalk joins source a walk × (walk_crest source a walk ≤ℤ m)

  -- If the levels of neighbours p and q are at most m, a low walk from q's label gives one from p's
  -- label.
  walk_over : (p q : Place) (a b : ℕ) (m : ℤ) (l : HasTileLevel t c floods p) (k : HasTileLevel t c floods q) →
      IsNeighbour t p q → number p ≡ Some a → number q ≡ Some b → l.level ≤ℤ m → k.level ≤ℤ m → HasLowWalk b m →
      HasLowWalk a m
  walk_over p q a b m l k next is at from_low to_low further = elim (cases_eq b a) [
    | inl same ↦ (further.0, rw same at further.1, rw same at further.2)
    | inr differ ↦
        let join = net.joined a b (int_max l.level k.level) (λ e. differ (sym e)) (record {
          from = p;
          to = q;
          from_level = l.level;
          to_level = k.level;
          neighbours = next;
          from_number = is;
          to_number = at;
          from_is = l.level_is;
          to_is = k.level_is;
          greater = refl;
        }) in (
          record { to = b; height = join.0 } ∷ further.0,
          (join.1, further.1),
          max_least _ _ _ (trans _ _ _ join.2 (max_least _ _ _ from_low to_low)) further.2,
        )
  ]

  -- A path from a cell gives a walk from its label at no greater crest.
  path_walk : (p : Place) (a : ℕ) (l : HasTileLevel t c floods p) (rest : List Place) → number p ≡ Some a →
      IsPath t p rest → HasLowWalk a (crest t p rest)
  path_walk p a l [] is path =
      let same = end_label t c l.right path in
      let height = data_is (height_at t p) (first_is_data t p [] path) in
      let own : source a ≡ Some height.0 = net.end_source p a height.0 path (cc) is height.1 in (
        [],
        ap is_some own,
        le_of_same _ _ (cc (height_is t p height.0 height.1)),
      )
  path_walk p a l (q ∷ rest) is path =
      let k = has_tile_level t h are q path.0.to_data in
      let b = net.some q path.0.to_data in
      let further = path_walk q b.0 k rest b.1 path.1 in
      let up = max_right (height_of t p) (crest t q rest) in
      walk_over p q a b.0 (crest t p (q ∷ rest)) l k path.0 is b.1 (level_low t c h are l (q ∷ rest) path)
      (trans _ _ _ (level_low t c h are k rest path.1) up) (further.0, further.1, trans _ _ _ further.2 up)

  -- A walk from a label's number gives a path from the label at no greater crest.
  walk_path : (walk : List Spill) (p : Place) {label : Place} {a : ℕ} → IsDataCell t p → number p ≡ Some a →
      label_among c floods p ≡ Some label → IsWalk joins source a walk → HasLowPath t (walk_crest source a walk) label
  walk_path [] p {label} {a} has is at walk =
      let height = data_is (source a) walk in
      let end = net.source_end p a height.0 has is height.1 in
      let same = same_Some end.0 label (sym end.1 ∙ at) in (
        [],
        rw same at end.2,
        le_of_same _ _ (cc (subst (λ z. height_of t z ≡ height.0) same (height_is t end.0 height.0 end.3))),
      )
  walk_path (step ∷ steps) p {label} {a} has is at walk =
      let pass = net.joined_only a step.to step.height walk.0 in
      let x = has_tile_level t h are pass.from pass.neighbours.from_data in
      let y = has_tile_level t h are pass.to pass.neighbours.to_data in
      let same = same_Some x.label label (sym x.label_is ∙ net.one pass.from p a pass.from_number is ∙ at) in
      let to_level : y.level ≡ pass.to_level = same_Some y.level pass.to_level (cc) in
      let later : ℤ = walk_crest source step.to steps in
      let total : ℤ = int_max step.height later in
      let further = walk_path steps pass.to pass.neighbours.to_data pass.to_number y.label_is walk.1 in
      let onward : HasLowPath t total y.label = low_below t later total y.label (max_right step.height later) further in
      let high : int_max pass.from_level pass.to_level ≤ℤ total =
      trans _ _ _ (le_of_same _ _ pass.greater) (max_left step.height later) in
      let from_low : x.level ≤ℤ total =
      subst (λ z. z ≤ℤ total) (sym (same_Some x.level pass.from_level (cc)))
      (trans _ _ _ (max_left pass.from_level pass.to_level) high) in
      let to_low =
      subst (λ z. z ≤ℤ total) (sym to_level) (trans _ _ _ (max_right pass.from_level pass.to_level) high) in
      let across =
      low_step t total pass.neighbours (trans _ _ _ (level_high t c x.right) from_low)
      (low_from_label t c y.right total to_low onward) in
      rw same at (low_at_label t c x.right total from_low across)

  -- The filled height of a cell is the greater of its level and its label's least crest.
  pub filled_height_is : {nodes : ℕ} (levels : List (Option ℤ)) {labels : List (Option ℕ)} →
      IsFlooded joins source nodes levels labels → (p : Place) {a : ℕ} (l : HasTileLevel t c floods p) →
      IsDataCell t p → number p ≡ Some a → a < nodes → (n : ℤ) × (get_or levels a None ≡ Some n) ×
      IsFilledHeight t p (int_max l.level n)
  filled_height_is levels flooded p {a} l some is below =
      let any = (filled_height t p some).1.reached in
      let any_walk = path_walk p a l any.0 is any.1 in
      elim (cases_option (get_or levels a None)) [
        | inl none ↦ absurd ((MatchOption-at_none _ _ none (flooded.each a below)).0 any_walk.0 any_walk.1)
        | inr found ↦
            let level = (MatchOption-at_some _ _ found.0 found.1 (flooded.each a below)).2 in
            let total = int_max l.level found.0 in
            let path =
            low_from_label t c l.right total (max_left l.level found.0)
            (low_below t found.0 total l.label (max_right l.level found.0)
            (subst (λ m. HasLowPath t m l.label) level.reached.2
            (walk_path level.reached.0 p some is l.label_is level.reached.1))) in
            let least : (rest : List Place) → IsPath t p rest → total ≤ℤ crest t p rest = λ rest is_path.
            let walk = path_walk p a l rest is is_path in
            max_least l.level found.0 (crest t p rest) (level_low t c h are l rest is_path)
            (trans found.0 (walk_crest source a walk.0) (crest t p rest) (level.least walk.0 walk.1) walk.2) in (
              found.0,
              found.1,
              record {
                reached = (path.0, path.1, between (crest t p path.0) total path.2 (least path.0 path.1));
                least = least;
              },
            )
      ]
