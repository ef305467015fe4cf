use Rattle.std.proofs.Common.{◌≢◌, ◌<◌, inl, inr, length, set, subst, sym, ap, ◌∙◌, arith}
use Rattle.terrain.specs.StoredCells.{uncounted}
use Rattle.flow.specs.Finding.{IsKnown}
use Rattle.flow.specs.Streams.{end_of}
use Rattle.flow.proofs.Ending.{writes_left, known_more, known_same, known_still, end-onward, end-inside, writes_fall}
use Rattle.flow.proofs.ends.Paths.write.Goals as goal

pub path-preserved : goal.path-preserved
path-preserved g c =
    let self = c.args.self.now in
    let links = g.L.Links.list self.links.now in
    let streams = self.sound.streams in
    let at : c.path.node < length c.path.found = omega (arith, c.path.invariant.found.size, c.path.invariant.inside) in
    let ne : c.args.number ≢ uncounted =
    λ e. omega (arith, e, c.requires.number, self.sound.few _ (end-inside streams c.args.from c.requires.inside)) in
    record {
      found = known_more _ _ c.path.invariant.found c.path.invariant.inside c.path.invariant.number;
      inside = omega (arith, c.next-node.ensures, streams.inside c.path.node c.path.invariant.inside);
      number = c.path.invariant.number ∙ sym (ap (λ n. (g.N.EndNumbering.numbers self.numbers.now).number n)
          (ap (end_of links) c.next-node.ensures ∙ end-onward streams c.path.node c.path.invariant.inside));
      kept = λ i k. known_still c.path.found c.path.node c.args.number at ne i (c.path.invariant.kept i k);
      known = inr (elim c.path.invariant.known [
        | inl b ↦ subst (λ n. IsKnown (set c.path.found c.path.node c.args.number) n) b
            (known_same c.path.found c.path.node c.args.number at ne)
        | inr k ↦ known_still c.path.found c.path.node c.args.number at ne c.args.from k
      ]);
    }

pub path-smaller : goal.path-smaller
path-smaller g c =
    let self = c.args.self.now in
    let links = g.L.Links.list self.links.now in
    let streams = self.sound.streams in
    let ne : c.args.number ≢ uncounted =
    λ e. omega (arith, e, c.requires.number, self.sound.few _ (end-inside streams c.args.from c.requires.inside)) in
    omega (
      arith,
      ap (writes_left links (set c.path.found c.path.node c.args.number)) c.next-node.ensures,
      writes_fall c.path.node c.args.number streams c.path.invariant.found c.path.invariant.inside c.path-test.true ne,
    )
