use Rattle.std.proofs.Common.{rules, ◌<◌, ap, sym, subst, length, arith}
use mir.Val.{SFits}
use Rattle.std.proofs.lemmas.Int.{to_z-of_z}
use Rattle.std.specs.Int.Signed.{≤ℤ_refl}
use Rattle.std.proofs.lemmas.List.{get_or_default, length-set}
use Rattle.terrain.proofs.Heights.{height_width}
use Rattle.fill.specs.Crests.{Leaves}
use Rattle.fill.proofs.Rings.{given_crest}
use Rattle.fill.proofs.crests.Search.give_crest.Goals as goal

pub loop-preserved : goal.loop-preserved
loop-preserved c =
    let fits : SFits height_width c.args.crest = search rules in
    let low : c.loop.at < length c.loop.self.next.items = omega (
      arith,
      c.if-at-count.false,
      c.min-count.ensures,
      c.len.ensures,
      c.len-2.ensures,
      ap length c.loop.invariant.next,
    ) in
    rw (to_z-of_z height_width _ fits) (record {
      size = cc (length-set _ _ _);
      next = c.loop.invariant.next;
      sound = λ t places leaves rings all.
          let sound = rw (to_z-of_z height_width _ fits) at c.loop.invariant.sound in
          let i = sound t places leaves rings all in (
            rw (c.of.ensures.stored, to_z-of_z height_width _ fits)
                (given_crest t places _ c.loop.at c.args.crest i.1 i.0),
            subst (λ n. Leaves t places n c.args.crest) (sym (cc (get_or_default _ _ _ 0 low)))
                (rings c.loop.at c.args.crest (omega (arith, low, ap length c.loop.invariant.next))
                (≤ℤ_refl c.args.crest) i.1),
          );
    })
