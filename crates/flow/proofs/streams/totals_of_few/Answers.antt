use Rattle.std.proofs.Common.{length, drop, ◌∙◌}
use Rattle.std.proofs.lemmas.List.{take_at}
use Rattle.flow.proofs.Sending.{marks_begin}
use Rattle.flow.proofs.streams.totals_of_few.Goals as goal

pub send_all-requires : goal.send_all-requires
send_all-requires g c =
    let links = g.L.Links.list c.args.links.now in
    let marks = c.mark_paths.new.waits in
    let all = c.deref_mut-2.ensures.value ∙ take_at marks (drop (length marks) c.in_ok-waits.waits.items)
    c.in_ok-waits.waits.len (c.mark_paths.auto.waits ∙ c.deref_mut.ensures.len) in
    λ κs le. (
      le,
      rw c.deref_mut-3.ensures.value (marks_begin links c.args.weights.items _ c.requires.streams c.requires.few
          c.requires.same c.requires.fits 0 (rw all c.mark_paths.ensures.marks)
          (rw all (rw c.deref.ensures.value at c.mark_paths.ensures.marked))),
    )
