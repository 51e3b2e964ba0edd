-- Numbers in the order of their keys.
use Rattle.std.proofs.Common.{Bool, List, None, Option, Some, [], ap, arith, false, get_or, if◌then◌else◌, inl, inr, length, refl, set, slice_get, subst, sym, true, ℕ, ◌+◌, ◌++◌, ◌-◌, ◌<◌, ◌∙◌, ◌∷◌, ◌≡◌, ◌≢◌, ◌≤◌, ◌⊎◌}
use Rattle.std.proofs.lemmas.Bool.{cases_Bool, ltb-false, ltb-true}
use Rattle.std.proofs.lemmas.List.{get_or-set_other, get_or-set_same, get_or_append_left, length-append, length-set}
use Rattle.std.proofs.Math.Seq.{get_or-append_seam}
use Rattle.std.proofs.lemmas.Option.{get_or_from_slice_get, slice_get-get_or, slice_get_within}
use Rattle.std.specs.List.{Contains}
use Rattle.std.specs.Prelude.{IfNone, IfSome}
use Rattle.tl_patch_select.specs.Inner.Ranges.{AreBounds, AreBoundsOf, AreSpans, HasKey, IsBefore, IsBoundsOf, IsByKey, IsOutOf, IsRising, IsSpan, IsSpanBefore, IsStray, StandsAmong, StandsIn, greatest_of, least_of}
use Rattle.tl_patch_select.specs.declared.ranges.Bounds.{Bounds}
use Rattle.tl_patch_select.specs.declared.ranges.ByKey.{ByKey}
use Rattle.tl_patch_select.specs.declared.ranges.Keyed.{Keyed}
use Rattle.tl_patch_select.specs.declared.ranges.Range.{Range}
use Rattle.tl_patch_select.specs.declared.ranges.Span.{Span}
use lib.Dec.{ltb}

-- what stands among some stands among more

pub stands_before : (all : List Keyed) (start middle end : ℕ) (one : Keyed) → middle ≤ end → StandsAmong all start middle one → StandsAmong all start end one
stands_before all start middle end one l h = record { at = h.at; from = h.from; before = omega (arith, l, h.before); is = h.is }

pub stands_behind : (all : List Keyed) (start middle end : ℕ) (one : Keyed) → start ≤ middle → StandsAmong all middle end one → StandsAmong all start end one
stands_behind all start middle end one l h = record { at = h.at; from = omega (arith, l, h.from); before = h.before; is = h.is }

stands_either : (all : List Keyed) (start middle end : ℕ) (one : Keyed) → StandsAmong all start end one → StandsAmong all start middle one ⊎ StandsAmong all middle end one
stands_either all start middle end one h = elim (cases_Bool (ltb h.at middle)) [
  | inl y ↦ inl (record { at = h.at; from = h.from; before = ltb-true h.at middle y; is = h.is })
  | inr y ↦ inr (record { at = h.at; from = ltb-false h.at middle y; before = h.before; is = h.is })
]

-- the bounds of what stands side by side

least_stands : (all : List Keyed) (start end : ℕ) (a b : Keyed) → StandsAmong all start end a → StandsAmong all start end b → StandsAmong all start end (least_of a b)
least_stands all start end a b x y = elim (ltb b.number a.number) as (λ c. StandsAmong all start end (if c then b else a)) [ true ↦ y | false ↦ x ]

greatest_stands : (all : List Keyed) (start end : ℕ) (a b : Keyed) → StandsAmong all start end a → StandsAmong all start end b → StandsAmong all start end (greatest_of a b)
greatest_stands all start end a b x y = elim (ltb a.number b.number) as (λ c. StandsAmong all start end (if c then b else a)) [ true ↦ y | false ↦ x ]

least_by : (c : Bool) (a b : Keyed) → ltb b.number a.number ≡ c → ((if c then b else a).number ≤ a.number) × ((if c then b else a).number ≤ b.number)
least_by true a b t = let l : b.number < a.number = ltb-true b.number a.number t in (omega arith, omega arith)
least_by false a b t = let l : a.number ≤ b.number = ltb-false b.number a.number t in (omega arith, omega arith)

least_is : (a b : Keyed) → ((least_of a b).number ≤ a.number) × ((least_of a b).number ≤ b.number)
least_is a b = least_by (ltb b.number a.number) a b refl

greatest_by : (c : Bool) (a b : Keyed) → ltb a.number b.number ≡ c → (a.number ≤ (if c then b else a).number) × (b.number ≤ (if c then b else a).number)
greatest_by true a b t = let l : a.number < b.number = ltb-true a.number b.number t in (omega arith, omega arith)
greatest_by false a b t = let l : b.number ≤ a.number = ltb-false a.number b.number t in (omega arith, omega arith)

greatest_is : (a b : Keyed) → (a.number ≤ (greatest_of a b).number) × (b.number ≤ (greatest_of a b).number)
greatest_is a b = greatest_by (ltb a.number b.number) a b refl

pub joined_are : (all : List Keyed) (start middle end : ℕ) (a b joined : Bounds) → joined.least ≡ least_of a.least b.least → joined.greatest ≡ greatest_of a.greatest b.greatest →
    start ≤ middle → middle ≤ end → AreBounds all start middle a → AreBounds all middle end b → AreBounds all start end joined
joined_are all start middle end a b joined e f l m x y =
    let low = least_is a.least b.least in
    let high = greatest_is a.greatest b.greatest in
    let e' : joined.least.number ≡ (least_of a.least b.least).number = ap (λ (k : Keyed). k.number) e in
    let f' : joined.greatest.number ≡ (greatest_of a.greatest b.greatest).number = ap (λ (k : Keyed). k.number) f in
    record {
      least = subst (StandsAmong all start end) (sym e)
          (least_stands all start end a.least b.least (stands_before all start middle end a.least m x.least) (stands_behind all start middle end b.least l y.least));
      greatest = subst (StandsAmong all start end) (sym f)
          (greatest_stands all start end a.greatest b.greatest (stands_before all start middle end a.greatest m x.greatest) (stands_behind all start middle end b.greatest l y.greatest));
      no_less = λ one h. elim (stands_either all start middle end one h) [
        | inl k ↦ (let n : a.least.number ≤ one.number = x.no_less one k in omega (arith, n, low.0, e'))
        | inr k ↦ (let n : b.least.number ≤ one.number = y.no_less one k in omega (arith, n, low.1, e'))
      ];
      no_greater = λ one h. elim (stands_either all start middle end one h) [
        | inl k ↦ (let n : one.number ≤ a.greatest.number = x.no_greater one k in omega (arith, n, high.0, f'))
        | inr k ↦ (let n : one.number ≤ b.greatest.number = y.no_greater one k in omega (arith, n, high.1, f'))
      ];
    }

-- one by itself

only_one : (all : List Keyed) (at : ℕ) (one other : Keyed) → slice_get all at ≡ Some one → StandsAmong all at (at + 1) other → one ≡ other
only_one all at one other e h =
    let same : h.at ≡ at = omega (arith, h.from, h.before) in
    let f : slice_get all at ≡ Some other = ap (slice_get all) (sym same) ∙ h.is in
    cc

pub alone_is : (all : List Keyed) (at : ℕ) (one : Keyed) (span : Span) → slice_get all at ≡ Some one → span.end ≡ at + 1 → span.bounds.least ≡ one → span.bounds.greatest ≡ one → IsSpan all at span
alone_is all at one span e end least greatest =
    let within : at < length all = slice_get_within all at one e in
    let stands : StandsAmong all at span.end one = record { at = at; from = omega arith; before = omega (arith, end); is = e } in
    let same : (other : Keyed) → StandsAmong all at span.end other → one ≡ other =
    λ other h. only_one all at one other e (subst (λ n. StandsAmong all at n other) end h) in
    record {
      order = omega (arith, end);
      within = omega (arith, end, within);
      bounds = record {
        least = subst (StandsAmong all at span.end) (sym least) stands;
        greatest = subst (StandsAmong all at span.end) (sym greatest) stands;
        no_less = λ other h. (let f : span.bounds.least.number ≡ other.number = ap (λ (k : Keyed). k.number) (least ∙ same other h) in omega (arith, f));
        no_greater = λ other h. (let f : span.bounds.greatest.number ≡ other.number = ap (λ (k : Keyed). k.number) (greatest ∙ same other h) in omega (arith, f));
      };
    }

-- one more span, or another one

abbrev pub AreSpansUpTo : List Keyed → List Span → Type 0
AreSpansUpTo all spans = (start : ℕ) (d : Span) → start < length spans → IsSpan all start (get_or spans start d)

pub one_more : (all : List Keyed) (spans : List Span) (span : Span) → AreSpansUpTo all spans → IsSpan all (length spans) span → AreSpansUpTo all (spans ++ span ∷ [])
one_more all spans span h k = λ start d l. elim (cases_Bool (ltb start (length spans))) [
  | inl y ↦
      let m : start < length spans = ltb-true start (length spans) y in
      subst (IsSpan all start) (sym (get_or_append_left spans (span ∷ []) d start m)) (h start d m)
  | inr y ↦
      let m : length spans ≤ start = ltb-false start (length spans) y in
      let same : length spans ≡ start = omega (arith, l, m, length-append spans (span ∷ [])) in
      let is : get_or (spans ++ span ∷ []) start d ≡ span = subst (λ n. get_or (spans ++ span ∷ []) n d ≡ span) same (get_or-append_seam spans span [] d) in
      subst (IsSpan all start) (sym is) (subst (λ n. IsSpan all n span) same k)
]

-- one more, by itself
pub alone_more : (all : List Keyed) (spans new : List Span) (at : ℕ) (span : Span) → length spans ≡ at → new ≡ spans ++ span ∷ [] → AreSpansUpTo all spans → IsSpan all at span → AreSpansUpTo all new
alone_more all spans new at span count e h k = subst (AreSpansUpTo all) (sym e) (one_more all spans span h (subst (λ n. IsSpan all n span) (sym count) k))

pub all_alone : (all : List Keyed) (spans : List Span) (at : ℕ) → length spans ≡ at → length all ≤ at → at ≤ length all → AreSpansUpTo all spans → AreSpans all spans
all_alone all spans at count l m h = record { count = omega (arith, count, l, m); each = h }

other_span : (all : List Keyed) (spans : List Span) (at start : ℕ) (span d : Span) → AreSpansUpTo all spans → start ≢ at → start < length spans → IsSpan all start (get_or (set spans at span) start d)
other_span all spans at start span d h n l = subst (IsSpan all start) (sym (get_or-set_other spans at start span d n)) (h start d l)

pub another_span : (all : List Keyed) (spans : List Span) (at : ℕ) (span : Span) → AreSpansUpTo all spans → IsSpan all at span → at < length spans → AreSpansUpTo all (set spans at span)
another_span all spans at span h k within = λ start d l.
    let m : start < length spans = omega (arith, l, length-set spans at span) in
    elim (cases_Bool (ltb start at)) [
      | inl y ↦ (let n : start < at = ltb-true start at y in other_span all spans at start span d h (λ e. absurd (omega (arith, e, n))) m)
      | inr y ↦ elim (cases_Bool (ltb at start)) [
        | inl z ↦ (let n : at < start = ltb-true at start z in other_span all spans at start span d h (λ e. absurd (omega (arith, e, n))) m)
        | inr z ↦
            let o : at ≤ start = ltb-false start at y in
            let p : start ≤ at = ltb-false at start z in
            let same : at ≡ start = omega (arith, o, p) in
            let is : get_or (set spans at span) start d ≡ span = subst (λ n. get_or (set spans at span) n d ≡ span) same (get_or-set_same spans at span d within) in
            subst (IsSpan all start) (sym is) (subst (λ n. IsSpan all n span) same k)
      ]
    ]

pub ready_with : (own new : ByKey) (start : ℕ) (span : Span) → IsByKey own → IsSpan own.all.items start span → new.all.items ≡ own.all.items → new.spans.items ≡ set own.spans.items start span → IsByKey new
ready_with own new start span h k a b =
    let count : length own.spans.items ≡ length own.all.items = (h.spans).count in
    let within : start < length own.spans.items = omega (arith, count, k.order, k.within) in
    let spans : AreSpans own.all.items (set own.spans.items start span) = record {
      count = length-set own.spans.items start span ∙ count;
      each = another_span own.all.items own.spans.items start span (h.spans).each k within;
    } in
    record {
      rising = subst IsRising (sym a) h.rising;
      spans = subst (λ (xs : List Keyed). AreSpans xs new.spans.items) (sym a) (subst (AreSpans own.all.items) (sym b) spans);
    }

pub by_key : (own : ByKey) → IsRising own.all.items → AreSpans own.all.items own.spans.items → IsByKey own
by_key own r s = record { rising = r; spans = s }

-- what is told of an index

pub told_before : (all : List Keyed) (at past : ℕ) (b : Bool) → (b ≡ true → IsBefore all at past) → b ≡ true → IsBefore all at past
told_before all at past b h t = h t

pub told_behind : (all : List Keyed) (at past : ℕ) (b : Bool) → (b ≡ false → (one : Keyed) → slice_get all at ≡ Some one → past ≤ one.key) → b ≡ false → (one : Keyed) → slice_get all at ≡ Some one → past ≤ one.key
told_behind all at past b h f = h f

-- keys that rise

pub rises : (all : List Keyed) (i j : ℕ) (a b : Keyed) → IsRising all → i ≤ j → slice_get all i ≡ Some a → slice_get all j ≡ Some b → a.key ≤ b.key
rises all i j a b r l e f =
    let within : j < length all = slice_get_within all j b f in
    let x : get_or all i a ≡ a = get_or_from_slice_get all i a a e in
    let y : get_or all j a ≡ b = get_or_from_slice_get all j b a f in
    let o : (get_or all i a).key ≤ (get_or all j a).key = r i j a l within in
    let x' : (get_or all i a).key ≡ a.key = ap (λ (k : Keyed). k.key) x in
    let y' : (get_or all j a).key ≡ b.key = ap (λ (k : Keyed). k.key) y in
    omega (arith, o, x', y')

-- what is known of some, the last of which has a lesser key
pub known_before : (all : List Keyed) (start past : ℕ) (span : Span) (last : Keyed) → IsRising all → IsSpan all start span → slice_get all (span.end - 1) ≡ Some last → last.key < past → IsSpanBefore all start past span
known_before all start past span last r s e l = record {
  is_span = s;
  before = λ one h. (let o : one.key ≤ last.key = rises all h.at (span.end - 1) one last r (omega (arith, h.before)) h.is e in omega (arith, o, l));
}

pub alone_before : (all : List Keyed) (start past : ℕ) (span : Span) (one : Keyed) → slice_get all start ≡ Some one → one.key < past → IsSpan all start span → span.end ≡ start + 1 → IsSpanBefore all start past span
alone_before all start past span one e l s end = record {
  is_span = s;
  before = λ other h. (let same : one ≡ other = only_one all start one other e (subst (λ n. StandsAmong all start n other) end h) in
      let k : one.key ≡ other.key = ap (λ (x : Keyed). x.key) same in omega (arith, k, l));
}

pub known_there : (all : List Keyed) (start past : ℕ) (span : Span) (d : Keyed) → IsRising all → IsSpan all start span → (get_or all (span.end - 1) d).key < past → IsSpanBefore all start past span
known_there all start past span d r s l =
    let a : start < span.end = s.order in
    let b : span.end ≤ length all = s.within in
    known_before all start past span (get_or all (span.end - 1) d) r s (slice_get-get_or all (span.end - 1) d (omega (arith, a, b))) l

pub alone_there : (all : List Keyed) (start past : ℕ) (span : Span) → IsBefore all start past → IsSpan all start span → span.end ≡ start + 1 → IsSpanBefore all start past span
alone_there all start past span h s end = alone_before all start past span h.one h.is h.before s end

-- a span goes on with the next one
pub goes_on : (all : List Keyed) (start past : ℕ) (span next new : Span) → IsSpanBefore all start past span → IsSpanBefore all span.end past next → new.end ≡ next.end →
    ((all : List Keyed) (start middle end : ℕ) → start ≤ middle → middle ≤ end → AreBounds all start middle span.bounds → AreBounds all middle end next.bounds → AreBounds all start end new.bounds) →
    IsSpanBefore all start past new
goes_on all start past span next new s n e j =
    let a : start < span.end = (s.is_span).order in
    let b : span.end < next.end = (n.is_span).order in
    let c : next.end ≤ length all = (n.is_span).within in
    let bounds : AreBounds all start next.end new.bounds = j all start span.end next.end (omega (arith, a)) (omega (arith, b)) (s.is_span).bounds (n.is_span).bounds in
    record {
      is_span = record { order = omega (arith, a, b, e); within = omega (arith, c, e); bounds = subst (λ k. AreBounds all start k new.bounds) (sym e) bounds };
      before = λ one h. elim (stands_either all start span.end next.end one (subst (λ k. StandsAmong all start k one) e h)) [ inl k ↦ s.before one k | inr k ↦ n.before one k ];
    }

-- the bounds of all that have such keys

pub among_is : (all : List Keyed) (start end : ℕ) (one : Keyed) → StandsAmong all start end one → Contains all one
among_is all start end one h =
    let within : h.at < length all = slice_get_within all h.at one h.is in
    (h.at, within, get_or_from_slice_get all h.at one one h.is)

pub found_at : (all : List Keyed) (one : Keyed) (h : Contains all one) → slice_get all h.0 ≡ Some one
found_at all one h = slice_get-get_or all h.0 one h.1 ∙ ap Some h.2

-- what stands behind some keys has none that is less
no_less_behind : (all : List Keyed) (at past : ℕ) (one : Keyed) (h : Contains all one) → IsRising all → ((x : Keyed) → slice_get all at ≡ Some x → past ≤ x.key) → one.key < past → h.0 < at
no_less_behind all at past one h r last l = elim (cases_Bool (ltb h.0 at)) [
  | inl y ↦ ltb-true h.0 at y
  | inr y ↦
      let m : at ≤ h.0 = ltb-false h.0 at y in
      let within : h.0 < length all = h.1 in
      let e : slice_get all at ≡ Some (get_or all at one) = slice_get-get_or all at one (omega (arith, m, within)) in
      let o : past ≤ (get_or all at one).key = last (get_or all at one) e in
      let p : (get_or all at one).key ≤ one.key = rises all at h.0 (get_or all at one) one r m e (found_at all one h) in
      absurd (omega (arith, o, p, l))
]

abbrev pub AreLess : List Keyed → ℕ → ℕ → Type 0
AreLess all start key = (at : ℕ) (one : Keyed) → at < start → slice_get all at ≡ Some one → one.key < key

abbrev pub AreNoLess : List Keyed → ℕ → ℕ → Type 0
AreNoLess all start key = (at : ℕ) (one : Keyed) → start ≤ at → slice_get all at ≡ Some one → key ≤ one.key

no_less_before : (all : List Keyed) (start from : ℕ) (one : Keyed) (h : Contains all one) → AreLess all start from → from ≤ one.key → start ≤ h.0
no_less_before all start from one h before l = elim (cases_Bool (ltb h.0 start)) [
  | inl y ↦ (let o : one.key < from = before h.0 one (ltb-true h.0 start y) (found_at all one h) in absurd (omega (arith, o, l)))
  | inr y ↦ ltb-false h.0 start y
]

stands_there : (all : List Keyed) (start : ℕ) (keys : Range) (span : Span) (one : Keyed) → AreLess all start keys.from → ((x : Keyed) → slice_get all span.end ≡ Some x → keys.past ≤ x.key) →
    IsRising all → HasKey all keys one → StandsAmong all start span.end one
stands_there all start keys span one before last r h = record {
  at = (h.among).0;
  from = no_less_before all start keys.from one h.among before (h.key).from;
  before = no_less_behind all span.end keys.past one h.among r last (h.key).before;
  is = found_at all one h.among;
}

has_key : (all : List Keyed) (start : ℕ) (keys : Range) (span : Span) (one : Keyed) → AreNoLess all start keys.from → IsSpanBefore all start keys.past span → StandsAmong all start span.end one → HasKey all keys one
has_key all start keys span one behind s h = record {
  among = among_is all start span.end one h;
  key = record { from = behind h.at one h.from h.is; before = s.before one h };
}

pub bounds_are : (all : List Keyed) (start : ℕ) (keys : Range) (span : Span) → AreLess all start keys.from → AreNoLess all start keys.from → IsRising all → IsSpanBefore all start keys.past span →
    ((x : Keyed) → slice_get all span.end ≡ Some x → keys.past ≤ x.key) → AreBoundsOf all keys span.bounds
bounds_are all start keys span before behind r s last =
    let b : AreBounds all start span.end span.bounds = (s.is_span).bounds in
    record {
      least = has_key all start keys span span.bounds.least behind s b.least;
      greatest = has_key all start keys span span.bounds.greatest behind s b.greatest;
      no_less = λ one h. b.no_less one (stands_there all start keys span one before last r h);
      no_greater = λ one h. b.no_greater one (stands_there all start keys span one before last r h);
    }

pub none_there : (all : List Keyed) (start : ℕ) (keys : Range) → AreLess all start keys.from → IsRising all → ((x : Keyed) → slice_get all start ≡ Some x → keys.past ≤ x.key) →
    (one : Keyed) → HasKey all keys one → ⊥
none_there all start keys before r last one h =
    let a : start ≤ (h.among).0 = no_less_before all start keys.from one h.among before (h.key).from in
    let b : (h.among).0 < start = no_less_behind all start keys.past one h.among r last (h.key).before in
    omega (arith, a, b)

-- whether one is stray

pub all_stand : (all : List Keyed) (keys numbers : Range) (b : Bounds) → AreBoundsOf all keys b → numbers.from ≤ b.least.number → b.greatest.number < numbers.past →
    (one : Keyed) → HasKey all keys one → StandsIn numbers one.number
all_stand all keys numbers b h l g one k =
    let m : b.least.number ≤ one.number = h.no_less one k in
    let n : one.number ≤ b.greatest.number = h.no_greater one k in
    record { from = omega (arith, m, l); before = omega (arith, n, g) }

pub is_stray : (all : List Keyed) (keys numbers : Range) (b : Bounds) (one : Keyed) → AreBoundsOf all keys b → IsOutOf b numbers one → IsStray all keys numbers one
is_stray all keys numbers b one h o = record {
  has_key = elim o.is [ inl e ↦ subst (HasKey all keys) (sym e) h.least | inr e ↦ subst (HasKey all keys) (sym e) h.greatest ];
  out = o.out;
}

pub none_at : (all : List Keyed) (start : ℕ) (keys : Range) (b : Bool) → AreLess all start keys.from → IsRising all → (b ≡ false → (x : Keyed) → slice_get all start ≡ Some x → keys.past ≤ x.key) → b ≡ false →
    (one : Keyed) → HasKey all keys one → ⊥
none_at all start keys b before r last f = none_there all start keys before r (last f)

pub none_stand : (all : List Keyed) (keys numbers : Range) (r : Option Bounds) → IsBoundsOf all keys r → r ≡ None → (one : Keyed) → HasKey all keys one → StandsIn numbers one.number
none_stand all keys numbers r h e one k = absurd (subst (IsBoundsOf all keys) e h one k)

pub stand_if : (all : List Keyed) (keys numbers : Range) (r : Option Bounds) (b : Bounds) (o : Option Keyed) → IsBoundsOf all keys r → r ≡ Some b →
    IfNone o ((numbers.from ≤ b.least.number) × (b.greatest.number < numbers.past)) → IfNone o ((one : Keyed) → HasKey all keys one → StandsIn numbers one.number)
stand_if all keys numbers r b None h e k = λ one l. all_stand all keys numbers b (subst (IsBoundsOf all keys) e h) k.0 k.1 one l
stand_if all keys numbers r b (Some x) h e k = tt

pub stray_if : (all : List Keyed) (keys numbers : Range) (r : Option Bounds) (b : Bounds) (o : Option Keyed) → IsBoundsOf all keys r → r ≡ Some b → IfSome o (IsOutOf b numbers) → IfSome o (IsStray all keys numbers)
stray_if all keys numbers r b None h e k = tt
stray_if all keys numbers r b (Some x) h e k = is_stray all keys numbers b x (subst (IsBoundsOf all keys) e h) k
