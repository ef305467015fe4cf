use Rattle.std.proofs.Common.{length, drop, ◌∙◌}
use Rattle.std.proofs.lemmas.List.{take_at}
use Rattle.flow.proofs.Sending.{donors_begin}
use Rattle.flow.proofs.streams.totals.Goals as goal

pub send_all-requires : goal.send_all-requires
send_all-requires g c =
    let links = g.L.Links.list c.args.links.now in
    let counts = c.count_donors.new.counts in
    let all = take_at counts (drop (length counts) c.in_ok-waits.waits.items) c.in_ok-waits.waits.len
    (c.count_donors.auto.counts ∙ c.deref_mut.ensures.len) in
    λ κs le. (
      le,
      rw c.deref_mut-3.ensures.value (donors_begin links c.args.weights.items _ c.requires.streams c.requires.few
          c.requires.same c.requires.fits (rw (c.deref_mut-2.ensures.value ∙ all) c.count_donors.ensures)),
    )
