-- A shortest walk meets no cell twice, so its moves are fewer than the terrain's cells. Of these a
-- terrain has at most 2^24.
use Rattle.std.proofs.Common.{◌≡◌, ◌≢◌, ℕ, zero, suc, ◌+◌, ◌-◌, ◌*◌, ◌^◌, ◌<◌, ◌≤◌, inl, inr, List, [], ◌∷◌, length, subst, refl, arith}
use Rattle.std.proofs.Math.Nat.{mul-le-mul_left, mul-le-mul_right}
use Rattle.terrain.proofs.Places.{inside_from_entry, index_below, index_injective}
use Rattle.terrain.specs.Raster.{Terrain, IsTerrain}
use Rattle.terrain.specs.Neighbours.{index_of, IsDataCell, height_of}
use Rattle.terrain.specs.declared.place.Place.{Place}
use Rattle.drain.specs.Steps.{DrainsAtOnce, IsWalkAtOneHeight, IsFlatWalk, IsSteps}
use Rattle.drain.proofs.Local.{one_number_of_steps}
use Rattle.drainage.proofs.Pigeonhole.{pigeonhole}
use Rattle.drain.proofs.Counted.{height_is}

-- the cell after i moves of a walk; its last cell if the walk has fewer moves
abbrev pub cell_on : Place → List Place → ℕ → Place
cell_on p rest zero = p
cell_on p [] (suc i) = p
cell_on p (q ∷ rest) (suc i) = cell_on q rest i

pub data_on_level_walk : (Ends : Place → Type 0) (t : Terrain) → ((p : Place) → Ends p →
    IsDataCell t p) → (p : Place) (rest : List Place) → IsWalkAtOneHeight Ends t p rest →
    IsDataCell t p
data_on_level_walk Ends t end_data p [] w = end_data p w
data_on_level_walk Ends t end_data p (q ∷ rest) w = w.0.from_data

pub drains_data : (t : Terrain) (p : Place) → DrainsAtOnce t p → IsDataCell t p
drains_data t p (inl lower) = lower.1.0.from_data
drains_data t p (inr (inl edge)) = edge.0
drains_data t p (inr (inr sink)) = sink.0

pub data_on_walk : (t : Terrain) (p : Place) (rest : List Place) → IsFlatWalk t p rest →
    IsDataCell t p
data_on_walk t = data_on_level_walk (DrainsAtOnce t) t (drains_data t)

rest_is_shortest : (t : Terrain) (p q : Place) (rest : List Place) → IsFlatWalk t p (q ∷ rest) →
    IsSteps t p (suc (length rest)) → IsSteps t q (length rest)
rest_is_shortest t p q rest w s = record {
  reached = (rest, w.2, refl);
  least = λ other walk. (let longer : suc (length rest) ≤ length (q ∷ other) =
      s.least (q ∷ other) (w.0, w.1, walk) in omega arith);
}

steps_on : (t : Terrain) (rest : List Place) (p : Place) (i : ℕ) → IsFlatWalk t p rest →
    IsSteps t p (length rest) → i ≤ length rest → IsSteps t (cell_on p rest i) (length rest - i)
steps_on t rest p zero w s le = let same : length rest ≡ length rest - 0 = omega arith in
    subst (λ n. IsSteps t p n) same s
steps_on t [] p (suc i) w s le = absurd (omega arith)
steps_on t (q ∷ rest) p (suc i) w s le =
    let same : length rest - i ≡ length (q ∷ rest) - suc i = omega arith in
    subst (λ n. IsSteps t (cell_on q rest i) n) same
    (steps_on t rest q i w.2 (rest_is_shortest t p q rest w s) (omega arith))

index_on : Terrain → Place → List Place → ℕ → ℕ
index_on t p rest i = index_of t.cols (cell_on p rest i)

inside_on : (t : Terrain) (p : Place) (rest : List Place) (i : ℕ) → IsFlatWalk t p rest →
    IsSteps t p (length rest) → i ≤ length rest → ((cell_on p rest i).row < t.rows)
    × ((cell_on p rest i).col < t.cols)
inside_on t p rest i w s le =
    let here = steps_on t rest p i w s le in
    inside_from_entry t.cols t.rows t.cells (cell_on p rest i) (height_of t (cell_on p rest i))
    (height_is t (cell_on p rest i)
    (data_on_walk t (cell_on p rest i) here.reached.0 here.reached.1))

apart_on : (t : Terrain) (p : Place) (rest : List Place) → IsFlatWalk t p rest → IsSteps t p
    (length rest) → (i j : ℕ) → i < j → j < length rest + 1 → cell_on p rest i ≢ cell_on p rest j
apart_on t p rest w s i j lt last same =
    let first = steps_on t rest p i w s (omega arith) in
    let second = rw (← same) at (steps_on t rest p j w s (omega arith)) in
    let one : length rest - i ≡ length rest - j =
    one_number_of_steps first second in
    omega arith

few_cells : (cols rows : ℕ) → cols ≤ 4096 → rows ≤ 4096 → cols * rows ≤ 2 ^ 24
few_cells cols rows a b =
    let first : cols * rows ≤ cols * 4096 = mul-le-mul_left cols b in
    let second : cols * 4096 ≤ 4096 * 4096 = mul-le-mul_right 4096 a in
    omega arith

pub moves_fit : (t : Terrain) (p : Place) (rest : List Place) → IsFlatWalk t p rest →
    IsSteps t p (length rest) → length rest + 1 ≤ t.cols * t.rows
unfolding index_on
moves_fit t p rest w s =
    pigeonhole (t.cols * t.rows) (length rest + 1) (index_on t p rest)
    (λ i h. (let here = inside_on t p rest i w s (omega arith) in
    index_below t.cols t.rows (cell_on p rest i) here.0 here.1))
    (λ i j lt last same. apart_on t p rest w s i j lt last
    (index_injective t.cols (cell_on p rest i) (cell_on p rest j)
    (inside_on t p rest i w s (omega arith)).1 (inside_on t p rest j w s (omega arith)).1 same))

pub steps_are_few : (t : Terrain) (p : Place) (n : ℕ) → IsTerrain t → IsSteps t p n → n < 2 ^ 24
steps_are_few t p n lawful s =
    let walk = s.reached in
    let fit : length walk.0 + 1 ≤ t.cols * t.rows =
    moves_fit t p walk.0 walk.1 (rw walk.2 s) in
    let few : t.cols * t.rows ≤ 2 ^ 24 = few_cells t.cols t.rows lawful.few_cols lawful.few_rows in
    omega (arith, walk.2)
