-- Labels stored as numbers of 32 bits; the greatest number stands for no label. A list of that
-- number alone stores no label. Setting a node's number sets that node's label and no other.
use Rattle.std.proofs.Common.{◌≡◌, ℕ, zero, suc, ◌<◌, List, set, replicate, None, Some, refl, Bool, true, false, ◌==◌, arith}
use Rattle.std.proofs.lemmas.Bool.{eqb-true}
use Rattle.std.proofs.lemmas.List.{map-set}
use Rattle.floods.specs.Notes.{label_of, no_label, numbered_labels}

pub none_yet : (n : ℕ) → numbered_labels (replicate n no_label) ≡ replicate n None
none_yet zero = refl
none_yet (suc n) = cc (none_yet n)

pub is_label : (label : ℕ) → label < no_label → label_of label ≡ Some label
is_label label below = cc (other (label == no_label) (λ same. omega (arith, below, eqb-true _ _ same))) where
  other : (b : Bool) → (b ≡ true → ⊥) → b ≡ false
  other true never = absurd (never refl)
  other false never = refl

pub one_put : (numbers : List ℕ) (node label : ℕ) → label < no_label →
    numbered_labels (set numbers node label) ≡ set (numbered_labels numbers) node (Some label)
one_put numbers node label below = cc (map-set label_of numbers node label, is_label label below)
