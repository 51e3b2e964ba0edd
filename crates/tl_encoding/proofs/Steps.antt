-- One step of each walk with a bound on its steps: `i` of `n` steps are taken.
use Rattle.std.proofs.Common.{◌≡◌, ℕ, ◌+◌, ◌-◌, ◌<◌, ◌≤◌, List, None, Some, true, false, arith, drop, refl, suc, zero}
use Rattle.std.specs.Option.{option_or}
use Rattle.tl_encoding.specs.Attributes.{after_attributes, is_end, is_named, next, value, value_among}
use Rattle.tl_encoding.specs.Charset.{item_end, meta_label, said_within}

one_less : (n i : ℕ) → i < n → n - i ≡ suc (n - (i + 1))
one_less n i h = omega arith

none_left : (n i : ℕ) → n ≤ i → n - i ≡ zero
none_left n i h = omega arith

pub value_none : (n i : ℕ) (word s : List ℕ) → n ≤ i → value_among (n - i) word s ≡ None
value_none n i word s h = rw (none_left n i h) refl

pub value_ends : (n i : ℕ) (word s : List ℕ) → i < n → is_end s ≡ true → value_among (n - i) word s ≡ None
value_ends n i word s h e = rw (one_less n i h, e) refl

pub value_found : (n i : ℕ) (word s : List ℕ) → i < n → is_end s ≡ false → is_named word s ≡ true → value_among (n - i) word s ≡ Some (value s)
value_found n i word s h e k = rw (one_less n i h, e, k) refl

pub value_goes_on : (n i : ℕ) (word s : List ℕ) → i < n → is_end s ≡ false → is_named word s ≡ false → value_among (n - i) word s ≡ value_among (n - (i + 1)) word (next s)
value_goes_on n i word s h e k = rw (one_less n i h, e, k) refl

pub tag_runs_out : (n i : ℕ) (s : List ℕ) → n ≤ i → after_attributes (n - i) s ≡ s
tag_runs_out n i s h = rw (none_left n i h) refl

pub tag_ends : (n i : ℕ) (s : List ℕ) → i < n → is_end s ≡ true → after_attributes (n - i) s ≡ s
tag_ends n i s h e = rw (one_less n i h, e) refl

pub tag_goes_on : (n i : ℕ) (s : List ℕ) → i < n → is_end s ≡ false → after_attributes (n - i) s ≡ after_attributes (n - (i + 1)) (next s)
tag_goes_on n i s h e = rw (one_less n i h, e) refl

pub nothing_said : (n i : ℕ) (s : List ℕ) → n ≤ i → said_within (n - i) s ≡ None
nothing_said n i s h = rw (none_left n i h) refl

pub one_step : (n i : ℕ) (s : List ℕ) → i < n → said_within (n - i) s ≡ option_or (meta_label s) (said_within (n - (i + 1)) (drop 1 (item_end s)))
one_step n i s h = rw (one_less n i h) refl

pub ruleset values = (value_none, value_ends, value_found, value_goes_on)

pub ruleset ends = (tag_runs_out, tag_ends, tag_goes_on)

pub ruleset steps = (nothing_said, one_step)
