use Rattle.std.proofs.Common.{◌≡◌, ℕ, List, Option, IfOk, subst, sym, ap, ◌∙◌}
use Rattle.tiles.specs.Cutting.{Cutting, View, Cuts}
use Rattle.drainage.specs.Following.{Directed}
use Rattle.drainage.specs.Drained.{Drained, AllFlowEnds, directed_of}
use Rattle.flow.specs.TileFlow.{IsTileFlow, directed_by}
use Rattle.flow.specs.Whole.{make_directed}
use Rattle.map_tests.proofs.flows.flow_of.Goals as goal

-- from a tile's view of the codes, `directed_by` gives the directions of the whole grid
shows_ways : (c : Cutting) (d : Drained) (v : View (Option ℕ)) (codes : List (Option ℕ))
    (tile : ℕ) → Cuts c d.terrain
    → v ≡ record { cutting = c; tile = tile; cells = codes } → codes ≡ d.codes →
    directed_by v ≡ directed_of d
shows_ways c d v codes tile cuts view same =
    ap (λ (x : View (Option ℕ)). directed_by x) view
    ∙ ap (λ n. make_directed n c.rows codes) cuts.0
    ∙ ap (λ n. make_directed d.terrain.cols n codes) cuts.1
    ∙ ap (make_directed d.terrain.cols d.terrain.rows) same

pub tile_flow-requires : goal.tile_flow-requires
tile_flow-requires c =
    subst (λ (d : Directed). AllFlowEnds d) (sym (shows_ways c.args.tiling.now c.args.ways.now _ _ _
    c.requires.cuts c.view.ensures c.codes.ensures.value)) c.requires.ends

pub returns : goal.returns
returns c =
    let view = c.view.ensures in
    let same =
    shows_ways c.args.tiling.now c.args.ways.now _ _ _ c.requires.cuts view c.codes.ensures.value in
    subst (λ (d : Directed). IfOk c.tile_flow.result (λ f. IsTileFlow d c.args.tiling.now
    c.args.tile f)) (sym (ap (λ (x : View (Option ℕ)). directed_by x) view) ∙ same)
    (subst (λ (x : View (Option ℕ)). IfOk c.tile_flow.result
    (λ f. IsTileFlow (directed_by x) x.cutting x.tile f)) view c.tile_flow.ensures)
