-- Each push, take, split and join on a deque keeps `Lawful`: the deque holds the entries pushed and
-- not taken. The views of its passes (rights to act on it) record the entries taken.
use Rattle.std.proofs.Common.{◌≡◌, ◌≢◌, ℕ, zero, suc, ◌+◌, ◌-◌, ◌<◌, ◌≤◌, inl, inr, true, true≢false, List, [], ◌∷◌, ◌++◌, length, take, drop, set, All, sym, refl, ap, ◌∙◌, subst, arith}
use Rattle.std.specs.List.{concat}
use Rattle.std.proofs.lemmas.List.{append_assoc, take_all}
use Rattle.std.proofs.lemmas.List.Elements.{All-cons, All-head, All-tail, All-append}
use Rattle.std.proofs.lemmas.List.Quantifiers.{all_pairs_push}
use Rattle.std.proofs.lemmas.List.Folds.{concat-append}
use mathlib.Core.Option.{some, some-ne-none}
use lib.ListN.{get_elem?, length-append}
use Rattle.crossbeam_deque.specs.Tasks.{Pushes, Takes, Finds, FindsFew, Forks, Merges, Learns}
use Rattle.crossbeam_deque.proofs.Lists.{at_set, at_snoc}
use Rattle.tile_jobs.specs.declared.deque.DequeEntry.{DequeEntry}
use Rattle.tile_jobs.specs.declared.deque.DequeEntry.TheVariants.{Job, End}
use Rattle.tile_jobs.specs.declared.deque.Log.{Log}
use Rattle.tile_jobs.specs.Board.{deal, feed, jobs_of, end_count, times, IsRising}
use Rattle.tile_jobs.specs.Rule.{sum_over, all_taken, taken, share, blank, spent, once, dealing, IsOf, Lawful, CanTake, Took, split_off, after_split, taken_back, TookNext}
use Rattle.tile_jobs.proofs.Totals.{sum_over_set, sum_over_at, sum_over_append, sum_over_plus, sum_over_alone}
use Rattle.tile_jobs.proofs.Entries.{cut_take, cut_drop, cut_below, cut_past, times_append, jobs_append, ends_append, feed_ends, feed_early, feed_late, feed_is, feed_rises, all_below}

no_list : All IsRising ([] ∷ [])
no_list = All-cons IsRising _ [] (λ i k d l low. absurd (omega arith)) (λ k d low. absurd (omega arith))

-- What holds of the view w at `port`, and of each other view, holds of each view once w is set.
among : {P : ℕ → Log → Type 0} (views : List Log) {port : ℕ} (w : Log) → P port w →
    ((j : ℕ) (v : Log) → j ≢ port → get_elem? views j ≡ some v → P j v) → (j : ℕ) (v : Log) →
    get_elem? (set views port w) j ≡ some v → P j v
among {P} views {port} w here others j v e =
    elim (at_set views port j w v e) [
      | inl q ↦ subst (λ (y : ℕ × Log). P y.0 y.1) (λ i. (sym q.0 i, q.1 i)) here
      | inr q ↦ others j v q.0 q.1
    ]

module _ {items : List DequeEntry} {views : List Log} (h : Lawful items views) (port : ℕ) {u : Log}
    (at : get_elem? views port ≡ some u) (can : CanTake u) where
  names : (u.jobs ≡ h.jobs) × (u.seats ≡ h.seats) × (u.deque ≡ h.v)
  names = let n = can.0 in (h.views_are port u at).named (inr (omega arith))

  all_pushed : h.pushed ≡ length (feed h.jobs h.seats h.v)
  all_pushed =
      let mine = h.views_are port u at in
      elim can.1 [
        | inl r ↦ (mine.ready r).0
        | inr o ↦ sym (mine.owns o.0).1 ∙ rw (names.0, names.1, names.2) at o.1
      ]

  left_of_feed : items ≡ drop (sum_over taken views) (feed h.jobs h.seats h.v)
  left_of_feed =
      let all = feed h.jobs h.seats h.v in
      h.held ∙ ap (drop (sum_over taken views)) (rw all_pushed (take_all _ all (omega arith)))

-- A take by a pass that may take (`CanTake`) keeps `Lawful` if the pass's new view w is lawful
-- (`IsOf`), counts the entry, and has the `share` (end marks due or taken) of its old view u.
taken_after : (x : DequeEntry) (items : List DequeEntry) (views : List Log) (h : Lawful (x ∷ items) views) (port : ℕ)
    (u w : Log) → get_elem? views port ≡ some u → CanTake u → taken w ≡ suc (taken u) → share w ≡ share u →
    ((y : ℕ) → times y (all_taken w) ≡ times y (all_taken u) + times y (jobs_of (x ∷ []))) →
    w.marks ≡ u.marks + end_count (x ∷ []) → IsOf h.jobs h.seats h.v h.pushed h.owner port w →
    Lawful items (set views port w)
taken_after x items views h port u w at can more same jobs ends is =
    let all = feed h.jobs h.seats h.v in
    let t = sum_over taken views in
    let whole = all_pushed h port at can in
    let held = left_of_feed h port at can in
    let low = cut_below all t x items held in
    let t' : sum_over taken (set views port w) ≡ suc t =
    (let s = sum_over_set taken views port u w at in omega arith) in
    let next : take (suc t) all ≡ take t all ++ x ∷ [] = cut_take all t x items held in
    record {
      jobs = h.jobs;
      seats = h.seats;
      v = h.v;
      pushed = h.pushed;
      owner = h.owner;
      within = omega arith;
      held = rw (t', whole, take_all (length all) all (omega arith)) (cut_drop all t x items held);
      each = λ y. rw (t', next, jobs_append, times_append)
          (let s = sum_over_set (λ (v : Log). times y (all_taken v)) views port u w at in
          let old = h.each y in let new = jobs y in omega arith);
      marks = rw (t', next, ends_append) (let s = sum_over_set (λ (v : Log). v.marks) views port u w at in
          let old = h.marks in omega arith);
      marks_due = (let s = sum_over_set share views port u w at in let old = h.marks_due in omega arith);
      closed = λ _. whole;
      views_are = among _ _ is (λ j v _. h.views_are j v);
    }

takes_job : (j : ℕ) (items : List DequeEntry) (views : List Log) (h : Lawful (Job j ∷ items) views) (port : ℕ)
    (u : Log) → get_elem? views port ≡ some u → CanTake u → let w = record u { took = u.took ++ j ∷ [] } in
    Lawful items (set views port w) × Took u (Job j ∷ []) w
takes_job j items views h port u at can =
    let t = sum_over taken views in
    let mine = h.views_are port u at in
    let n = names h port at can in
    let held = left_of_feed h port at can in
    let w : Log = record u { took = u.took ++ j ∷ [] } in
    let some_leave : 0 < u.marks_due = can.0 in
    let early = feed_early h.jobs h.seats h.v t j items held in
    let mine_of_all = sum_over_at taken views port u at in
    let marks_of_all = sum_over_at (λ (v : Log). v.marks) views port u at in
    let no_marks : u.marks ≡ 0 = (let a = h.marks in let b = early.1 in omega arith) in
    let l1 = length-append u.took (j ∷ []) in
    let l2 = length-append (u.took ++ j ∷ []) (concat u.gathered) in
    let l3 = length-append u.took (concat u.gathered) in
    let j_is = feed_is h.jobs h.seats h.v t j items held in
    let rises : All (λ x. x < j) u.took =
    all_below u.took j (λ x n. feed_rises h.jobs h.seats h.v t j items held x
    (let a = times_append x u.took (concat u.gathered) in
    let b = sum_over_at (λ (v : Log). times x (all_taken v)) views port u at in let c = h.each x in omega arith)) in
    let rising : All IsRising (w.took ∷ w.gathered) =
    All-cons IsRising w.took u.gathered
    (all_pairs_push (λ x y. x < y) u.took j (All-head IsRising u.took u.gathered mine.rising) rises)
    (All-tail IsRising u.took u.gathered mine.rising) in (
      taken_after (Job j) items views h port u w at can (omega arith) refl
          (λ y. (let a = times_append y (u.took ++ j ∷ []) (concat u.gathered) in
          let b = times_append y u.took (j ∷ []) in let c = times_append y u.took (concat u.gathered) in
          omega arith)) (omega arith) (record {
            named = mine.named;
            owns = mine.owns;
            ready = mine.ready;
            idle = λ z. absurd (omega arith);
            rising = rising;
          }),
      record {
        view = refl;
        below = rw n.0 j_is.0;
        of_deque = rw (n.1, n.2) j_is.1;
        rises = rises;
        fits = rw (n.0, n.1, n.2) (omega arith);
        unmarked = no_marks;
      },
    )

takes_mark : (items : List DequeEntry) (views : List Log) (h : Lawful (End ∷ items) views) (port : ℕ) (u : Log) →
    get_elem? views port ≡ some u → CanTake u → let w = record u { marks = suc u.marks; marks_due = u.marks_due - 1 } in
    Lawful items (set views port w) × Took u (End ∷ []) w
takes_mark items views h port u at can =
    let mine = h.views_are port u at in
    let w : Log = record u { marks = suc u.marks; marks_due = u.marks_due - 1 } in
    let some_leave : 0 < u.marks_due = can.0 in (
      taken_after End items views h port u w at can (omega arith) (omega arith) (λ y. omega arith) (omega arith)
          (record {
            named = λ _. mine.named (inr (omega arith));
            owns = mine.owns;
            ready = λ r. ((mine.ready r).0, omega arith);
            idle = λ z. absurd (omega arith);
            rising = mine.rising;
          }),
      refl,
    )

-- A pass that may take keeps `Lawful` when it takes the first entry; its view changes as in `Took`.
pub takes : (port : ℕ) (u : Log) → CanTake u → Takes Lawful port u 1 (Took u)
takes port u can [] items views some_x few h at = absurd (omega arith)
takes port u can (x ∷ y ∷ zs) items views some_x few h at = absurd (omega arith)
takes port u can (Job j ∷ []) items views some_x few h at = let r = takes_job j items views h port u at can in
    (record u { took = u.took ++ j ∷ [] }, r.0, r.1)
takes port u can (End ∷ []) items views some_x few h at =
    let r = takes_mark items views h port u at can in
    (record u { marks = suc u.marks; marks_due = u.marks_due - 1 }, r.0, r.1)

pub never_empty : (port : ℕ) (u : Log) → CanTake u → (views : List Log) → Lawful [] views →
    get_elem? views port ≡ some u → ⊥
never_empty port u can views h at =
    let all = feed h.jobs h.seats h.v in
    let t = sum_over taken views in
    let held = left_of_feed h port at can in
    let past : length all ≤ t = cut_past all t held in
    let marks : sum_over (λ (v : Log). v.marks) views ≡ h.seats =
    h.marks ∙ ap end_count (take_all t all past) ∙ feed_ends h.jobs h.seats h.v in
    let sums = sum_over_plus (λ (v : Log). v.marks_due) (λ (v : Log). v.marks) views in
    let mine = sum_over_at (λ (v : Log). v.marks_due) views port u at in
    let some_leave : 0 < u.marks_due = can.0 in
    let marks_due = h.marks_due in
    absurd (omega arith)

pub finds : (port : ℕ) (u : Log) → CanTake u → Finds Lawful port u ⊥
finds port u can views h at = never_empty port u can views h at

pub finds_few : (port : ℕ) (u : Log) → CanTake u → FindsFew Lawful 0 port u ⊥
finds_few port u can [] views few h at = never_empty port u can views h at
finds_few port u can (x ∷ xs) views few h at = absurd (omega arith)

-- Splitting a pass off the owner's keeps `Lawful` if all entries were pushed and the owner's pass
-- may take at least two end marks.
pub forks : (port : ℕ) (u : Log) → u.owns ≡ true → u.pushed ≡ length (feed u.jobs u.seats u.deque) → 1 < u.marks_due →
    Forks Lawful port u (after_split u) (split_off u)
forks port u owns all two items views h at =
    let mine = h.views_are port u at in
    let n = mine.named (inl owns) in
    let whole : h.pushed ≡ length (feed h.jobs h.seats h.v) = sym (mine.owns owns).1 ∙ rw (n.0, n.1, n.2) at all in
    let l : Log = after_split u in
    let r : Log = split_off u in
    let vs : List Log = set views port l in
    let left_is : IsOf h.jobs h.seats h.v h.pushed h.owner port l =
    record {
      named = λ _. n;
      owns = mine.owns;
      ready = λ q. ((mine.ready q).0, omega arith);
      idle = λ z. absurd (omega arith);
      rising = mine.rising;
    } in
    let right_is : (j : ℕ) → IsOf h.jobs h.seats h.v h.pushed h.owner j r =
    λ j. record {
      named = λ _. n;
      owns = λ o. absurd (true≢false (sym o));
      ready = λ q. (whole, omega arith);
      idle = λ z. absurd (omega arith);
      rising = no_list;
    } in
    let same : sum_over taken (vs ++ r ∷ []) ≡ sum_over taken views =
    (let s = sum_over_set taken views port u l at in let k = sum_over_append taken vs r in
    omega arith) in
    record {
      jobs = h.jobs;
      seats = h.seats;
      v = h.v;
      pushed = h.pushed;
      owner = h.owner;
      within = rw same h.within;
      held = rw same h.held;
      each = λ y. rw same
          (let s = sum_over_set (λ (v : Log). times y (all_taken v)) views port u l at in
          let k = sum_over_append (λ (v : Log). times y (all_taken v)) vs r in
          let old = h.each y in omega arith);
      marks = rw same (let s = sum_over_set (λ (v : Log). v.marks) views port u l at in
          let k = sum_over_append (λ (v : Log). v.marks) vs r in let old = h.marks in omega arith);
      marks_due = (let s = sum_over_set share views port u l at in
          let k = sum_over_append share vs r in
          let old = h.marks_due in omega arith);
      closed = λ _. whole;
      views_are = λ j v e. elim (at_snoc vs r v j e) [
        | inl x ↦ among _ _ left_is (λ j v _. h.views_are j v) j v x
        | inr is ↦ rw (← is) (right_is j)
      ];
    }

back_all : (u w : Log) → all_taken (taken_back u w) ≡ all_taken u ++ all_taken w
back_all u w =
    rw (concat-append u.gathered (w.took ∷ w.gathered)) (sym (append_assoc u.took (concat u.gathered) (all_taken w)))

-- Joining a pass to the owner's keeps `Lawful`.
pub merges : (port : ℕ) (u : Log) (other : ℕ) (w : Log) → u.owns ≡ true →
    Merges Lawful port u other w (taken_back u w) spent
merges port u other w owns items views h at two at' =
    let mine = h.views_are port u at in
    let n = mine.named (inl owns) in
    let both : Log = taken_back u w in
    let vs : List Log = set views port both in
    let was : get_elem? views other ≡ some w =
    elim (at_set views port other both w at') [ inl q ↦ absurd (two q.0) | inr q ↦ q.1 ] in
    let theirs = h.views_are other w was in
    let joins : all_taken both ≡ all_taken u ++ all_taken w = back_all u w in
    let sizes : length (all_taken both) ≡ length (all_taken u) + length (all_taken w) =
    ap length joins ∙ length-append (all_taken u) (all_taken w) in
    let idle : share both ≡ 0 → all_taken both ≡ [] =
    λ z. joins ∙ rw (mine.idle (omega arith), theirs.idle (omega arith)) in
    let both_is : IsOf h.jobs h.seats h.v h.pushed h.owner port both =
    record {
      named = λ _. n;
      owns = mine.owns;
      ready = λ q. let k = (mine.ready q).1 in ((mine.ready q).0, omega arith);
      idle = idle;
      rising = All-append IsRising (u.took ∷ u.gathered) (w.took ∷ w.gathered) mine.rising theirs.rising;
    } in
    let spent_is : IsOf h.jobs h.seats h.v h.pushed h.owner other spent =
    record {
      named = elim [ inl o ↦ absurd (true≢false (sym o)) | inr z ↦ absurd (omega arith) ];
      owns = λ o. absurd (true≢false (sym o));
      ready = λ q. absurd (true≢false (sym q));
      idle = λ _. refl;
      rising = no_list;
    } in
    let same : sum_over taken (set vs other spent) ≡ sum_over taken views =
    (let s = sum_over_set taken views port u both at in
    let k = sum_over_set taken vs other w spent at' in
    omega arith) in
    record {
      jobs = h.jobs;
      seats = h.seats;
      v = h.v;
      pushed = h.pushed;
      owner = h.owner;
      within = rw same h.within;
      held = rw same h.held;
      each = λ y. rw same (let s = sum_over_set (λ (v : Log). times y (all_taken v)) views port u both at in
          let k = sum_over_set (λ (v : Log). times y (all_taken v)) vs other w spent at' in
          let old = h.each y in
          let c : times y (all_taken both) ≡ times y (all_taken u) + times y (all_taken w) =
          ap (times y) joins ∙ times_append y (all_taken u) (all_taken w) in omega arith);
      marks = rw same (let s = sum_over_set (λ (v : Log). v.marks) views port u both at in
          let k = sum_over_set (λ (v : Log). v.marks) vs other w spent at' in let old = h.marks in
          omega arith);
      marks_due = (let s = sum_over_set share views port u both at in
          let k = sum_over_set share vs other w spent at' in let old = h.marks_due in omega arith);
      closed = rw same h.closed;
      views_are = among _ _ spent_is (λ j v _. among _ _ both_is (λ j v _. h.views_are j v) j v);
    }

-- The owner's view, once all passes are joined to its pass and an end mark was taken.
abbrev pub IsWhole : Log → Type 0
IsWhole u = (u.owns ≡ true) × (share u ≡ u.seats) × (0 < u.marks)

pub whole_learns : (port : ℕ) (u : Log) → IsWhole u →
    Learns Lawful port u (λ _. (y : ℕ) → times y (all_taken u) ≡ times y (deal u.jobs u.seats u.deque))
whole_learns port u is items views h at y =
    let mine = h.views_are port u at in
    let n = mine.named (inl is.0) in
    let all = feed h.jobs h.seats h.v in
    let t = sum_over taken views in
    let alone : sum_over share views ≡ share u = h.marks_due ∙ sym n.1 ∙ sym is.1 in
    let weigh : (j : ℕ) (v : Log) → get_elem? views j ≡ some v → share v ≡ 0 → times y (all_taken v) ≡ 0 =
    λ j v e z. ap (times y) ((h.views_are j v e).idle z) in
    let only = sum_over_alone (λ (v : Log). times y (all_taken v)) share views port u weigh at alone in
    let marks = sum_over_at (λ (v : Log). v.marks) views port u at in
    let some_mark : 0 < u.marks = is.2 in
    let late : 0 < end_count (take t all) = (let m = h.marks in omega arith) in
    sym only ∙ h.each y ∙ ap (times y) (feed_late h.jobs h.seats h.v t late) ∙ rw (n.0, n.1, n.2)

first_is : (port : ℕ) (u : Log) → get_elem? (blank ∷ []) port ≡ some u → IsOf 0 0 0 0 0 port u
first_is zero u e = let is : blank ≡ u = cc in
    subst (IsOf 0 0 0 0 0 0) is (record {
      named = λ _. (refl, refl, refl);
      owns = λ _. (refl, refl);
      ready = λ q. absurd (true≢false (sym q));
      idle = λ _. refl;
      rising = no_list;
    })
first_is (suc port) u e = absurd (some-ne-none u (sym e))

pub begins : Lawful [] (blank ∷ [])
begins = record {
  jobs = 0;
  seats = 0;
  v = 0;
  pushed = 0;
  owner = 0;
  within = omega arith;
  held = refl;
  each = λ y. refl;
  marks = refl;
  marks_due = refl;
  closed = λ z. absurd (omega arith);
  views_are = first_is;
}

-- Pushing the next entry keeps `Lawful` if no entry was taken, only the owner's pass may take end
-- marks, and the other views stay lawful.
pushed_after : (J S V n : ℕ) (e : DequeEntry) (rest items : List DequeEntry) (views : List Log) (h : Lawful items views)
    (port : ℕ) → get_elem? views port ≡ some (dealing J S V n) → e ∷ rest ≡ drop n (feed J S V) →
    sum_over taken views ≡ 0 → items ≡ take n (feed J S V) → sum_over share views + S ≡ S + once n S →
    ((j : ℕ) (v : Log) → j ≢ port → get_elem? views j ≡ some v → IsOf J S V (suc n) port j v) →
    Lawful (items ++ e ∷ []) (set views port (dealing J S V (suc n)))
pushed_after J S V n e rest items views h port at next none held shares others =
    let all = feed J S V in
    let u : Log = dealing J S V n in
    let w : Log = dealing J S V (suc n) in
    let low = cut_below all n e rest next in
    let t' : sum_over taken (set views port w) ≡ 0 = (let s = sum_over_set taken views port u w at in omega arith) in
    let w_is : IsOf J S V (suc n) port port w =
    record {
      named = λ _. (refl, refl, refl);
      owns = λ _. (refl, refl);
      ready = λ q. absurd (true≢false (sym q));
      idle = λ _. refl;
      rising = no_list;
    } in
    record {
      jobs = J;
      seats = S;
      v = V;
      pushed = suc n;
      owner = port;
      within = omega arith;
      held = rw (t', cut_take all n e rest next) (ap (λ l. l ++ e ∷ []) held);
      each = λ y. rw t' (let s = sum_over_set (λ (v : Log). times y (all_taken v)) views port u w at in
          let old = rw none at (h.each y) in omega arith);
      marks = rw t' (let s = sum_over_set (λ (v : Log). v.marks) views port u w at in
          let old = rw none at h.marks in omega arith);
      marks_due = (let s = sum_over_set share views port u w at in omega arith);
      closed = λ z. absurd (omega arith);
      views_are = among _ _ w_is others;
    }

none_yet : (t p l : ℕ) → (0 < t → p ≡ l) → p < l → t ≡ 0
none_yet zero p l closed low = refl
none_yet (suc t) p l closed low = absurd (omega arith)

pub pushes : (J S V n port : ℕ) (e : DequeEntry) (rest : List DequeEntry) → e ∷ rest ≡ drop n (feed J S V) →
    Pushes Lawful port (dealing J S V n) (e ∷ []) (λ w. w ≡ dealing J S V (suc n))
pushes J S V zero port e rest next items views h at =
    let mine = h.views_are port blank at in
    let n = mine.named (inl refl) in
    let o = mine.owns refl in
    let within = h.within in
    let none : sum_over taken views ≡ 0 = omega arith in
    let p : h.pushed ≡ 0 = sym o.1 in
    let held : items ≡ [] = h.held ∙ rw (none, p) in
    let shares : sum_over share views ≡ 0 = h.marks_due ∙ sym n.1 in
    let others : (j : ℕ) (v : Log) → j ≢ port → get_elem? views j ≡ some v → IsOf J S V 1 port j v = λ j v far x.
    let theirs = h.views_are j v x in
    let little = sum_over_at share views j v x in
    record {
      named = elim [
        | inl q ↦ absurd (far ((theirs.owns q).0 ∙ sym o.0))
        | inr z ↦
            absurd (omega arith)
      ];
      owns = λ q. absurd (far ((theirs.owns q).0 ∙ sym o.0));
      ready = λ q. (let some_share = (theirs.ready q).1 in absurd (omega arith));
      idle = theirs.idle;
      rising = theirs.rising;
    } in (dealing J S V 1, pushed_after J S V 0 e rest items views h port at next none held (omega arith) others, refl)
pushes J S V (suc m) port e rest next items views h at =
    let mine = h.views_are port (dealing J S V (suc m)) at in
    let n = mine.named (inl refl) in
    let o = mine.owns refl in
    let low = cut_below (feed J S V) (suc m) e rest next in
    let low' : suc m < length (feed h.jobs h.seats h.v) = rw (n.0, n.1, n.2) at low in
    let none : sum_over taken views ≡ 0 =
    none_yet (sum_over taken views) h.pushed (length (feed h.jobs h.seats h.v)) h.closed (omega arith) in
    let held : items ≡ take (suc m) (feed J S V) = h.held ∙ rw (none, n.0, n.1, n.2, o.1) in
    let marks_due = h.marks_due in
    let others : (j : ℕ) (v : Log) → j ≢ port → get_elem? views j ≡ some v → IsOf J S V (suc (suc m)) port j v =
    λ j v far x.
    let theirs = h.views_are j v x in
    record {
      named = λ q. let k = theirs.named q in (k.0 ∙ sym n.0, k.1 ∙ sym n.1, k.2 ∙ sym n.2);
      owns = λ q. absurd (far ((theirs.owns q).0 ∙ sym o.0));
      ready = λ q. (let late = (theirs.ready q).0 in absurd (omega arith));
      idle = theirs.idle;
      rising = theirs.rising;
    } in (
      dealing J S V (suc (suc m)),
      pushed_after J S V (suc m) e rest items views h port at next none held (omega arith) others,
      refl,
    )

next_is : (xs items : List DequeEntry) (views : List Log) (h : Lawful (xs ++ items) views) (port : ℕ) (u : Log) →
    get_elem? views port ≡ some u → CanTake u → u.owns ≡ true → share u ≡ u.seats →
    (rest : List DequeEntry) × (xs ++ rest ≡ drop (taken u) (feed u.jobs u.seats u.deque))
next_is xs items views h port u at can owns whole =
    let n = (h.views_are port u at).named (inl owns) in
    let alone : sum_over share views ≡ share u = h.marks_due ∙ sym n.1 ∙ sym whole in
    let weigh : (j : ℕ) (v : Log) → get_elem? views j ≡ some v → share v ≡ 0 → taken v ≡ 0 =
    λ j v e z. (let k = ap length ((h.views_are j v e).idle z) in omega arith) in
    let only = sum_over_alone taken share views port u weigh at alone in
    (items, rw (n.0, n.1, n.2, ← only) (left_of_feed h port at can))

-- If all other passes are joined to the owner's, the owner takes the next entry in the order
-- pushed.
pub takes_next : (port : ℕ) (u : Log) → CanTake u → u.owns ≡ true → share u ≡ u.seats →
    Takes Lawful port u 1 (TookNext u)
takes_next port u can owns whole xs items views some_x few h at =
    let r = takes port u can xs items views some_x few h at in
    (r.0, r.1, (r.2, next_is xs items views h port u at can owns whole))
