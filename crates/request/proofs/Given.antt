-- An option's value spells at most one number: the one read from it, or none if none is read. The
-- first word that spells nothing is the bad word. If a command line names a map, none of its
-- observer or gauge words is bad and its map words have no fault; if it names a viewshed or a rise, it
-- has no sink words.
use Rattle.std.proofs.Common.{◌≡◌, ◌<◌, ◌^◌, ℕ, zero, suc, Bool, false, List, [], ◌∷◌, length, map, take, drop, get_or, slice_index, slice_index_or, codes, arith, Bor, Option, Some, None, Result, IfSome, IfNone, sym, ap, refl, ◌∙◌, subst, inl, inr, eqb}
use Rattle.std.specs.Prelude.{is_none, option_map, unwrap_or}
use Rattle.std.specs.List.{position, position_or_len}
use Rattle.std.proofs.lemmas.Bool.{eq-eqb, false≢true, lt-ltb}
use Rattle.std.proofs.lemmas.Option.{none-some, same_Some}
use Rattle.std.proofs.lemmas.List.{get_or-take, length-map, length-take}
use Rattle.std.proofs.lemmas.List.Quantifiers.{position-Some}
use Rattle.std.proofs.lemmas.List.Sums.{position_or_len_is}
use Rattle.std.proofs.Math.ListN.{get_or-map}
use Rattle.std.specs.Str.Parse.{ExplainsUnsignedError, HasUnsignedDigitsIfOk, IsNumeral, ParsesUnsigned, digits_value, without_leading_plus}
use Rattle.std.specs.declared.num.ParseIntError.{ParseIntError}
use Rattle.clap.specs.Words.{Row, Text, matched_of, one_of, raw_values, rows_of}
use Rattle.clap.specs.Matches.{ReadsOne}
use Rattle.clap.specs.declared.parser.matches.Found.{Found}
use Rattle.clap.proofs.WalkLemmas.{raw_values-rows}
use Rattle.terrain.specs.declared.observer.Observer.{Observer}
use Rattle.request.specs.CommandLine.{HasNumber, HasObservers, IsFirstBad, Names, Spell, TakesGauges, TakesObservers, sink_words, words_of}
use Rattle.request.specs.PlaceWords.{observer_of, place_of_word}
use Rattle.request.specs.Request.{IsSightMap}
use Rattle.request.specs.WordsFaults.{IsBadObserverAfter, IsBadGaugeAfter, IsFaultWith, IsMapsFaultAfter}
use Rattle.request.specs.declared.words.WordsFault.{WordsFault}
use Rattle.request.specs.declared.words.WordsFault.TheVariants.{BadObserver, BadGauge, BadMaps, NoMap}
use Rattle.request.specs.declared.map.Map.{Map}
use Rattle.request.specs.declared.map.Map.TheVariants.{Accumulate, Basins, Catchments, View, Rise, Several}
use Rattle.request.specs.declared.map_words.MapsFault.{MapsFault}

pub same_number : (rows : List Row) (id : Text) (m n : ℕ) → HasNumber rows id m → HasNumber rows id n → m ≡ n
same_number rows id m n a b =
    sym a.spelled ∙
    ap (λ (t : Text). digits_value 10 (without_leading_plus t)) (same_Some _ _ (sym a.given ∙ b.given)) ∙ b.spelled

pub given_words : (f : Found) (id : Text) (o : Option (Bor (List (Bor Text)))) (none words : Bor (List (Bor Text))) →
    words ≡ unwrap_or o none → none.now ≡ [] →
    option_map (λ s. map (λ w. w.now) s.now) o ≡ option_map raw_values (matched_of f id) →
    map (λ w. w.now) words.now ≡ words_of id (rows_of f)
given_words f id None none words is empty same =
    rw is (ap (map (λ (w : Bor Text). w.now)) empty ∙
    ap (λ ws. unwrap_or ws []) (same ∙ raw_values-rows f id))
given_words f id s none words is empty same =
    rw is (ap (λ ws. unwrap_or ws []) (same ∙ raw_values-rows f id))

abbrev Reads : Text → Result ℕ ParseIntError → Type 0
Reads t r = ParsesUnsigned 32 10 t r × ExplainsUnsignedError 10 t r × HasUnsignedDigitsIfOk t r

module _ (rows : List Row) (id : Text) where
  pub number_some : (o : Option Text) → one_of id rows ≡ o → (r : Option ℕ) → (o ≡ None → r ≡ None) →
      ((t : Text) → o ≡ Some t → ReadsOne Reads t r) → IfSome r (HasNumber rows id)
  number_some o is None none value = tt
  number_some None is (Some n) none value = absurd (none-some n (sym (none refl)))
  number_some (Some t) is n none value =
      let p = (value t refl).0 in
      record {
        text = t;
        given = is;
        numeral = p.0.0;
        spelled = sym p.1;
        small = subst (λ (k : ℕ). k < 2 ^ 32) (sym p.1) p.0.1;
      }

  pub number_none : (o : Option Text) → one_of id rows ≡ o → (r : Option ℕ) → (o ≡ None → r ≡ None) →
      ((t : Text) → o ≡ Some t → ReadsOne Reads t r) → IfNone r ((n : ℕ) → HasNumber rows id n → ⊥)
  number_none o is (Some n) none value = tt
  number_none None is None none value = λ n h. none-some h.text (sym is ∙ h.given)
  number_none (Some t) is None none value = λ n h.
      let v = value t refl in
      let same : h.text ≡ t = same_Some _ _ (sym h.given ∙ is) in
      let small : digits_value 10 (without_leading_plus h.text) < 2 ^ 32 =
      subst (λ (k : ℕ). k < 2 ^ 32) (sym h.spelled) h.small in
      v.1.0 (
        subst (λ (x : Text). IsNumeral 10 (without_leading_plus x)) same h.numeral,
        subst (λ (x : Text). digits_value 10 (without_leading_plus x) < 2 ^ 32) same small,
      )

-- texts whose first letters differ are different
differ : (a b : Text) → eqb (slice_index a 0) (slice_index b 0) ≡ false → a ≡ b → ⊥
differ a b letters same = false≢true (sym letters ∙ eq-eqb _ _ (ap (λ (t : Text). slice_index t 0) same))

pub only_view : (rows : List Row) → ((os : List Observer) (t r : ℕ) → HasObservers rows os →
    HasNumber rows (codes "target") t → HasNumber rows (codes "radius") r → ⊥) → (m : Map) →
    Names (codes "view") rows m → ⊥
only_view rows never Accumulate e = differ _ _ refl e
only_view rows never Basins e = differ _ _ refl e
only_view rows never (Catchments gauges) e = differ _ _ refl e.0
only_view rows never (View os t r) n = never os.items t r n.1 n.2 n.3
only_view rows never (Rise os r) n = differ _ _ refl n.0
only_view rows never (Several maps gauges) n = differ _ _ refl n.0
only_view rows never m e = differ _ _ refl e

pub only_rise : (rows : List Row) → ((r : ℕ) → HasNumber rows (codes "radius") r → ⊥) → (m : Map) →
    Names (codes "rise") rows m → ⊥
only_rise rows never Accumulate e = differ _ _ refl e
only_rise rows never Basins e = differ _ _ refl e
only_rise rows never (Catchments gauges) e = differ _ _ refl e.0
only_rise rows never (View os t r) n = differ _ _ refl n.0
only_rise rows never (Rise os r) n = never r n.2
only_rise rows never (Several maps gauges) n = differ _ _ refl n.0
only_rise rows never m e = differ _ _ refl e

module _ {X : Type 0} (of : Text → Option X) where
  spelled : (words : List Text) (items : List X) (i : ℕ) (d : Text) → Spell of words items → i < length words →
      is_none (of (get_or words i d)) ≡ false
  spelled [] items i d e lt = absurd (omega arith)
  spelled (w ∷ words) [] i d e lt = absurd (cc)
  spelled (w ∷ words) (x ∷ items) zero d e lt = ap (λ (xs : List (Option X)). is_none (get_or xs 0 None)) e
  spelled (w ∷ words) (x ∷ items) (suc i) d e lt = spelled words items i d (ap (drop 1) e) (omega arith)

  pub none_bad : (words : List Text) (items : List X) (place : ℕ) → Spell of words items → ¬ IsFirstBad of words place
  none_bad words items place all bad =
      let at = position-Some (λ word. is_none (of word)) words place [] bad in
      let not_here = spelled words items place [] all at.0 in
      absurd (cc)

  pub bad_at : (words : List (Bor Text)) (items : List X) (k : ℕ) (d : Bor Text) → k < length words →
      Spell of (map (λ w. w.now) (take k words)) items → of (slice_index_or words k d).now ≡ None →
      IsFirstBad of (map (λ w. w.now) words) k
  bad_at words items k d lt before here =
      let texts : List Text = map (λ w. w.now) words in
      let is_bad : Text → Bool = λ word. is_none (of word) in
      let size : length texts ≡ length words = length-map words _ in
      let at : position_or_len is_bad texts ≡ k =
      position_or_len_is is_bad texts k d.now (omega (arith, size)) (λ i less.
      let good =
      spelled (map (λ w. w.now) (take k words)) items i d.now before
      (omega (arith, length-map (take k words) (λ (w : Bor Text). w.now), length-take k words)) in
      rw (
        get_or-map (λ (w : Bor Text). w.now) words i d,
        ← get_or-take k words i d less,
        ← get_or-map (λ (w : Bor Text). w.now) (take k words) i d,
      ) good) (λ inside. rw (get_or-map (λ (w : Bor Text). w.now) words k d) (ap is_none here)) in
      rw (at, lt-ltb k (length texts) (omega (arith, size))) refl

pub no_bad : (name : Text) (rows : List Row) (os : List Observer) (place : ℕ) →
    HasObservers rows os → ¬ IsBadObserverAfter name rows place
no_bad name rows os place has bad = none_bad observer_of _ os place has bad.1

-- a name that begins with none of the letters v and r takes no observers
takes_no_observers : (name : Text) (letter : ℕ) → slice_index name 0 ≡ letter → (118 ≡ letter → ⊥) →
    (114 ≡ letter → ⊥) → ¬ TakesObservers name
takes_no_observers name letter first v r takes = elim takes [
  | inl is ↦ v (ap (λ (t : Text). slice_index t 0) (sym is) ∙ first)
  | inr is ↦ r (ap (λ (t : Text). slice_index t 0) (sym is) ∙ first)
]

pub map_without_bad : (name : Text) (rows : List Row) (m : Map) (place : ℕ) →
    Names name rows m → ¬ IsBadObserverAfter name rows place
map_without_bad name rows Accumulate place n bad =
    takes_no_observers name 97 (ap (λ (t : Text). slice_index t 0) n) (λ e. omega arith) (λ e. omega arith) bad.0
map_without_bad name rows Basins place n bad =
    takes_no_observers name 98 (ap (λ (t : Text). slice_index t 0) n) (λ e. omega arith) (λ e. omega arith) bad.0
map_without_bad name rows (Catchments gauges) place n bad =
    takes_no_observers name 99 (ap (λ (t : Text). slice_index t 0) n.0) (λ e. omega arith) (λ e. omega arith) bad.0
map_without_bad name rows (View os t r) place n bad = no_bad name rows os.items place n.1 bad
map_without_bad name rows (Rise os r) place n bad = no_bad name rows os.items place n.1 bad
map_without_bad name rows (Several maps gauges) place n bad =
    takes_no_observers name 109 (ap (λ (t : Text). slice_index t 0) n.0) (λ e. omega arith) (λ e. omega arith) bad.0
map_without_bad name rows m place n bad =
    takes_no_observers name 102 (ap (λ (t : Text). slice_index t 0) n) (λ e. omega arith) (λ e. omega arith) bad.0

-- a name that begins with none of the letters c and m takes no gauges
takes_no_gauges : (name : Text) (letter : ℕ) → slice_index name 0 ≡ letter → (99 ≡ letter → ⊥) →
    (109 ≡ letter → ⊥) → ¬ TakesGauges name
takes_no_gauges name letter first c m takes = elim takes [
  | inl is ↦ c (ap (λ (t : Text). slice_index t 0) (sym is) ∙ first)
  | inr is ↦ m (ap (λ (t : Text). slice_index t 0) (sym is) ∙ first)
]

pub sight_without_gauges : (name : Text) (rows : List Row) (place : ℕ) →
    TakesObservers name → ¬ IsBadGaugeAfter name rows place
sight_without_gauges name rows place (inl view) bad =
    takes_no_gauges name 118 (ap (λ (t : Text). slice_index t 0) view) (λ e. omega arith) (λ e. omega arith) bad.0
sight_without_gauges name rows place (inr rise) bad =
    takes_no_gauges name 114 (ap (λ (t : Text). slice_index t 0) rise) (λ e. omega arith) (λ e. omega arith) bad.0

pub map_without_bad_gauge : (name : Text) (rows : List Row) (m : Map) (place : ℕ) →
    Names name rows m → ¬ IsBadGaugeAfter name rows place
map_without_bad_gauge name rows Accumulate place n bad =
    takes_no_gauges name 97 (ap (λ (t : Text). slice_index t 0) n) (λ e. omega arith) (λ e. omega arith) bad.0
map_without_bad_gauge name rows Basins place n bad =
    takes_no_gauges name 98 (ap (λ (t : Text). slice_index t 0) n) (λ e. omega arith) (λ e. omega arith) bad.0
map_without_bad_gauge name rows (Catchments gauges) place n bad = none_bad place_of_word _ gauges.items place n.1 bad.1
map_without_bad_gauge name rows (View os t r) place n bad =
    takes_no_gauges name 118 (ap (λ (t : Text). slice_index t 0) n.0) (λ e. omega arith) (λ e. omega arith) bad.0
map_without_bad_gauge name rows (Rise os r) place n bad =
    takes_no_gauges name 114 (ap (λ (t : Text). slice_index t 0) n.0) (λ e. omega arith) (λ e. omega arith) bad.0
map_without_bad_gauge name rows (Several maps gauges) place n bad =
    none_bad place_of_word _ gauges.items place n.1 bad.1
map_without_bad_gauge name rows m place n bad =
    takes_no_gauges name 102 (ap (λ (t : Text). slice_index t 0) n) (λ e. omega arith) (λ e. omega arith) bad.0

-- a name that does not begin with m is not `maps`
not_maps : (name : Text) (letter : ℕ) → slice_index name 0 ≡ letter → (109 ≡ letter → ⊥) → ¬ (name ≡ codes "maps")
not_maps name letter first m is = m (ap (λ (t : Text). slice_index t 0) (sym is) ∙ first)

pub map_without_maps_fault : (name : Text) (rows : List Row) (m : Map) (fault : MapsFault) →
    Names name rows m → ¬ IsMapsFaultAfter name rows fault
map_without_maps_fault name rows Accumulate fault n bad =
    not_maps name 97 (ap (λ (t : Text). slice_index t 0) n) (λ e. omega arith) bad.0
map_without_maps_fault name rows Basins fault n bad =
    not_maps name 98 (ap (λ (t : Text). slice_index t 0) n) (λ e. omega arith) bad.0
map_without_maps_fault name rows (Catchments gauges) fault n bad =
    not_maps name 99 (ap (λ (t : Text). slice_index t 0) n.0) (λ e. omega arith) bad.0
map_without_maps_fault name rows (View os t r) fault n bad =
    not_maps name 118 (ap (λ (t : Text). slice_index t 0) n.0) (λ e. omega arith) bad.0
map_without_maps_fault name rows (Rise os r) fault n bad =
    not_maps name 114 (ap (λ (t : Text). slice_index t 0) n.0) (λ e. omega arith) bad.0
map_without_maps_fault name rows (Several maps gauges) fault n bad = none-some fault (sym n.3 ∙ bad.2)
map_without_maps_fault name rows m fault n bad =
    not_maps name 102 (ap (λ (t : Text). slice_index t 0) n) (λ e. omega arith) bad.0

pub sight_without_maps_fault : (name : Text) (rows : List Row) (fault : MapsFault) →
    TakesObservers name → ¬ IsMapsFaultAfter name rows fault
sight_without_maps_fault name rows fault (inl view) bad =
    not_maps name 118 (ap (λ (t : Text). slice_index t 0) view) (λ e. omega arith) bad.0
sight_without_maps_fault name rows fault (inr rise) bad =
    not_maps name 114 (ap (λ (t : Text). slice_index t 0) rise) (λ e. omega arith) bad.0

-- words that each spell an item have no bad one among them
pub no_first_bad : {X : Type 0} (of : Text → Option X) (words : List Text) (items : List X) → Spell of words items →
    position (λ word. is_none (of word)) words ≡ None
no_first_bad of words items all = go (position (λ word. is_none (of word)) words) refl where
  go : (o : Option ℕ) → position (λ word. is_none (of word)) words ≡ o →
      position (λ word. is_none (of word)) words ≡ None
  go None e = e
  go (Some place) e = absurd (none_bad of words items place all e)

pub sight_without_sinks : (name : Text) (rows : List Row) (m : Map) → Names name rows m → IsSightMap m →
    Spell place_of_word (sink_words name rows) []
sight_without_sinks name rows (View os t r) named view =
    subst (λ (n : Text). Spell place_of_word (sink_words n rows) []) (sym named.0) refl
sight_without_sinks name rows (Rise os r) named view =
    subst (λ (n : Text). Spell place_of_word (sink_words n rows) []) (sym named.0) refl
sight_without_sinks name rows m named view = absurd view

module _ {Observer Gauge Bad WrongGauge : ℕ → Type 0} {Maps BadMap : MapsFault → Type 0} {Missing NoMapThen : Type 0}
  where
    pub fault_weaker : (f : WordsFault) → ((place : ℕ) → Observer place → Bad place) →
        ((place : ℕ) → Gauge place → WrongGauge place) → ((fault : MapsFault) → Maps fault → BadMap fault) →
        (Missing → NoMapThen) → IsFaultWith Observer Gauge (λ _. ⊥) Maps Missing f →
        IsFaultWith Bad WrongGauge (λ _. ⊥) BadMap NoMapThen f
    fault_weaker (BadObserver place) observer gauge maps missing h = observer place h
    fault_weaker (BadGauge place) observer gauge maps missing h = gauge place h
    fault_weaker (BadMaps fault) observer gauge maps missing h = maps fault h
    fault_weaker NoMap observer gauge maps missing h = missing h
    fault_weaker fault observer gauge maps missing h = h
