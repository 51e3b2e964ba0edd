-- Asks in the order in which they are put.
use Rattle.std.proofs.Common.{◌≡◌, ◌≤◌, ◌<◌, ℕ, suc, ◌+◌, ◌==◌, Bool, true, false, ◌&&◌, ◌||◌, not, List, [], ◌∷◌, length, get_or, refl, ap, ap₂, sym, subst, ◌∙◌, arith, inl, inr, ◌⊎◌, true≢false}
use Rattle.std.specs.Prelude.{Err, Ok, OnOk, Result, nat_le, nat_lt}
use Rattle.std.specs.Ordering.{is_lt, nat_cmp, ordering_then, MatchOrdering}
use Rattle.std.specs.declared.cmp.Ordering.{Ordering}
use Rattle.std.specs.declared.cmp.Ordering.TheVariants.{Less, Equal, Greater}
use Rattle.std.specs.Cmp.{ranks}
use Rattle.std.proofs.lemmas.Bool.{and_parts, cases_Bool, eq-eqb, eqb-true, le-leb, leb-true, ltb-false, ltb-true, or_right}
use Rattle.tl_patch_spec.specs.Splices.{are_ordered}
use Rattle.tl_patch_spec.specs.Together.{Turn, are_in_turn, comes_first, is_in_turn}
use Rattle.tl_patch_edit.specs.Asks.{ask_view, asks_view}
use Rattle.tl_patch_edit.specs.Errors.{IsOutside, AreAcross}
use Rattle.tl_patch_edit.specs.Several.{AreInTurn, Precedes, asked_one, asked_view}
use Rattle.tl_patch_edit.specs.View.{turn_view}
use Rattle.tl_patch_edit.specs.declared.ask.PlacedAsk.{PlacedAsk}

-- what a sort says of a key of numbers

after_less : (x y : ℕ) (c o : Ordering) → MatchOrdering c (x < y) (x ≡ y) (y < x) → is_lt (ordering_then c o) ≡ false → (y ≤ x) × (y ≡ x → is_lt o ≡ false)
after_less x y Less o m h = absurd (true≢false h)
after_less x y Equal o m h = (omega arith, λ e. h)
after_less x y Greater o m h = (omega arith, λ e. absurd (omega arith))

no_less : (x y : ℕ) (o : Ordering) → is_lt (ordering_then (nat_cmp x y) o) ≡ false → (y ≤ x) × (y ≡ x → is_lt o ≡ false)
no_less x y o h = after_less x y (nat_cmp x y) o (ranks x y) h

last_less : (x y : ℕ) (c : Ordering) → MatchOrdering c (x < y) (x ≡ y) (y < x) → is_lt c ≡ false → y ≤ x
last_less x y Less m h = absurd (true≢false h)
last_less x y Equal m h = omega arith
last_less x y Greater m h = omega arith

-- what comes first of what is put at one place

by_at : (a b : Turn) → a.depth ≡ b.depth → a.rank ≡ b.rank → is_lt (nat_cmp b.at a.at) ≡ false → comes_first a b ≡ true
by_at a b d k h =
    or_right (nat_lt b.depth a.depth) _ (ap₂ (λ (v w : Bool). v && w) (eq-eqb a.depth b.depth d)
    (or_right (nat_lt a.rank b.rank) _ (ap₂ (λ (v w : Bool). v && w) (eq-eqb a.rank b.rank k)
    (le-leb a.at b.at (last_less b.at a.at (nat_cmp b.at a.at) (ranks b.at a.at) h)))))

by_rank : (a b : Turn) → a.depth ≡ b.depth → is_lt (ordering_then (nat_cmp b.rank a.rank) (nat_cmp b.at a.at)) ≡ false → comes_first a b ≡ true
by_rank a b d h =
    let one = no_less b.rank a.rank (nat_cmp b.at a.at) h in
    let le : a.rank ≤ b.rank = one.0 in
    elim (cases_Bool (nat_lt a.rank b.rank)) [
      | inl y ↦ or_right (nat_lt b.depth a.depth) _ (ap₂ (λ (v w : Bool). v && w) (eq-eqb a.depth b.depth d)
          (ap (λ (v : Bool). v || ((a.rank == b.rank) && nat_le a.at b.at)) y))
      | inr y ↦
          let ge : b.rank ≤ a.rank = ltb-false a.rank b.rank y in
          let same : a.rank ≡ b.rank = omega arith in
          by_at a b d same (one.1 same)
    ]

of_turn : (a b : Turn) → is_lt (ordering_then (nat_cmp a.depth b.depth) (ordering_then (nat_cmp b.rank a.rank) (nat_cmp b.at a.at))) ≡ false → comes_first a b ≡ true
of_turn a b h =
    let one = no_less a.depth b.depth (ordering_then (nat_cmp b.rank a.rank) (nat_cmp b.at a.at)) h in
    let le : b.depth ≤ a.depth = one.0 in
    elim (cases_Bool (nat_lt b.depth a.depth)) [
      | inl y ↦ ap (λ (v : Bool). v || ((a.depth == b.depth) && (nat_lt a.rank b.rank || ((a.rank == b.rank) && nat_le a.at b.at)))) y
      | inr y ↦
          let ge : a.depth ≤ b.depth = ltb-false b.depth a.depth y in
          let same : a.depth ≡ b.depth = omega arith in
          by_rank a b same (one.1 (sym same))
    ]

abbrev turn_cmp : PlacedAsk → PlacedAsk → Ordering
turn_cmp a b = ordering_then (nat_cmp b.turn.depth a.turn.depth) (ordering_then (nat_cmp a.turn.rank b.turn.rank) (nat_cmp a.turn.at b.turn.at))

abbrev pub key_less : PlacedAsk → PlacedAsk → Bool
key_less a b = is_lt (ordering_then (nat_cmp a.ask.from b.ask.from) (ordering_then (nat_cmp a.ask.until b.ask.until) (turn_cmp a b)))

of_key : (a b : PlacedAsk) → key_less b a ≡ false → Precedes a b
of_key a b h =
    let one = no_less b.ask.from a.ask.from (ordering_then (nat_cmp b.ask.until a.ask.until) (turn_cmp b a)) h in
    record {
      from = one.0;
      until = λ e. (no_less b.ask.until a.ask.until (turn_cmp b a) (one.1 e)).0;
      turn = λ e u. of_turn (turn_view a.turn) (turn_view b.turn) ((no_less b.ask.until a.ask.until (turn_cmp b a) (one.1 e)).1 u);
    }

then_then : (a b c : Ordering) → ordering_then (ordering_then a b) c ≡ ordering_then a (ordering_then b c)
then_then Less b c = refl
then_then Equal b c = refl
then_then Greater b c = refl

five : (a b c d e : Ordering) → ordering_then (ordering_then (ordering_then (ordering_then a b) c) d) e ≡ ordering_then a (ordering_then b (ordering_then c (ordering_then d e)))
five a b c d e =
    then_then (ordering_then (ordering_then a b) c) d e
    ∙ then_then (ordering_then a b) c (ordering_then d e)
    ∙ then_then a b (ordering_then c (ordering_then d e))

pub key_not_less : (a b : PlacedAsk) → is_lt (ordering_then (ordering_then (ordering_then (ordering_then (nat_cmp a.ask.from b.ask.from) (nat_cmp a.ask.until b.ask.until)) (nat_cmp b.turn.depth a.turn.depth)) (nat_cmp a.turn.rank b.turn.rank)) (nat_cmp a.turn.at b.turn.at)) ≡ false → key_less a b ≡ false
key_not_less a b h =
    sym (ap is_lt (five (nat_cmp a.ask.from b.ask.from) (nat_cmp a.ask.until b.ask.until) (nat_cmp b.turn.depth a.turn.depth) (nat_cmp a.turn.rank b.turn.rank) (nat_cmp a.turn.at b.turn.at))) ∙ h

pub in_turn : (asks : List PlacedAsk) → ((k : ℕ) (d : PlacedAsk) → k + 1 < length asks → key_less (get_or asks (k + 1) d) (get_or asks k d) ≡ false) → AreInTurn asks
in_turn [] h = tt
in_turn (a ∷ []) h = tt
in_turn (a ∷ b ∷ asks) h = (
  of_key a b (h 0 a (omega arith)),
  in_turn (b ∷ asks) (λ k d l.
      let same : suc k + 1 ≡ suc (k + 1) = omega arith in
      let m : suc k + 1 < length (a ∷ b ∷ asks) = omega arith in
      subst (λ n. key_less (get_or (a ∷ b ∷ asks) n d) (get_or (b ∷ asks) k d) ≡ false) same (h (suc k) d m)),
)

-- splices that aren't in order

outside_first : (len : ℕ) (b : PlacedAsk) (asks : List PlacedAsk) → IsOutside len (ask_view b.ask) → AreAcross len (asks_view (b ∷ asks))
outside_first len b [] o = o
outside_first len b (x ∷ asks) o = inl o

two_across : (len : ℕ) (a b : PlacedAsk) (asks : List PlacedAsk) → Precedes a b → b.ask.from < a.ask.until → AreAcross len (asks_view (a ∷ b ∷ asks))
two_across len a b asks p l = elim (cases_Bool (nat_lt a.ask.from b.ask.until)) [
  | inl y ↦ inr (inl (record { first = l; second = ltb-true a.ask.from b.ask.until y }))
  | inr y ↦
      let k : b.ask.until ≤ a.ask.from = ltb-false a.ask.from b.ask.until y in
      elim (cases_Bool (nat_lt b.ask.until b.ask.from)) [
        | inl z ↦ inr (inr (outside_first len b asks (inl (ltb-true b.ask.until b.ask.from z))))
        | inr z ↦
            let m : b.ask.from ≤ b.ask.until = ltb-false b.ask.until b.ask.from z in
            let f = p.from in
            let same : a.ask.from ≡ b.ask.from = omega arith in
            let u : a.ask.until ≤ b.ask.until = p.until same in
            absurd (omega arith)
      ]
]

rest_ordered : (len done : ℕ) (a : PlacedAsk) (asks : List PlacedAsk) → done ≤ a.ask.from → a.ask.from ≤ a.ask.until → a.ask.until ≤ len →
    are_ordered done len (asks_view (a ∷ asks)) ≡ false → are_ordered a.ask.until len (asks_view asks) ≡ false
rest_ordered len done a asks l i j h =
    let front : (nat_le done a.ask.from && nat_le a.ask.from a.ask.until && nat_le a.ask.until len) ≡ true =
    ap₂ (λ (v w : Bool). v && w) (ap₂ (λ (v w : Bool). v && w) (le-leb done a.ask.from l) (le-leb a.ask.from a.ask.until i)) (le-leb a.ask.until len j) in
    sym (ap (λ (v : Bool). v && are_ordered a.ask.until len (asks_view asks)) front) ∙ h

is_outside : (len : ℕ) (a : PlacedAsk) → IsOutside len (ask_view a.ask) ⊎ ((a.ask.from ≤ a.ask.until) × (a.ask.until ≤ len))
is_outside len a = elim (cases_Bool (nat_lt a.ask.until a.ask.from)) [
  | inl y ↦ inl (inl (ltb-true a.ask.until a.ask.from y))
  | inr y ↦ elim (cases_Bool (nat_lt len a.ask.until)) [
    | inl z ↦ inl (inr (ltb-true len a.ask.until z))
    | inr z ↦ inr (ltb-false a.ask.until a.ask.from y, ltb-false len a.ask.until z)
  ]
]

pub are_across : (len done : ℕ) (a : PlacedAsk) (asks : List PlacedAsk) → done ≤ a.ask.from → AreInTurn (a ∷ asks) → are_ordered done len (asks_view (a ∷ asks)) ≡ false →
    AreAcross len (asks_view (a ∷ asks))
are_across len done a [] l t h = elim (is_outside len a) [
  | inl o ↦ o
  | inr w ↦ absurd (true≢false (rest_ordered len done a [] l w.0 w.1 h))
]
are_across len done a (b ∷ asks) l t h = elim (is_outside len a) [
  | inl o ↦ inl o
  | inr w ↦ elim (cases_Bool (nat_lt b.ask.from a.ask.until)) [
    | inl y ↦ two_across len a b asks t.0 (ltb-true b.ask.from a.ask.until y)
    | inr y ↦ inr (inr (are_across len a.ask.until b asks (ltb-false b.ask.from a.ask.until y) t.1 (rest_ordered len done a (b ∷ asks) l w.0 w.1 h)))
  ]
]

-- asks in order are put in turn

one_in_turn : (a b : PlacedAsk) → Precedes a b → a.ask.from ≤ a.ask.until → a.ask.until ≤ b.ask.from → b.ask.from ≤ b.ask.until → is_in_turn (asked_one a) (asked_one b) ≡ true
one_in_turn a b p i j k = elim (cases_Bool (a.ask.from == b.ask.until)) [
  | inl y ↦
      let e : a.ask.from ≡ b.ask.until = eqb-true a.ask.from b.ask.until y in
      let f : a.ask.from ≡ b.ask.from = omega arith in
      let u : a.ask.until ≡ b.ask.until = omega arith in
      ap₂ (λ (v w : Bool). not v || w) y (p.turn f u)
  | inr y ↦ ap (λ (v : Bool). not v || comes_first (turn_view a.turn) (turn_view b.turn)) y
]

pub are_put_in_turn : (len done : ℕ) (asks : List PlacedAsk) → AreInTurn asks → are_ordered done len (asks_view asks) ≡ true → are_in_turn (asked_view asks) ≡ true
are_put_in_turn len done [] t h = refl
are_put_in_turn len done (a ∷ []) t h = refl
are_put_in_turn len done (a ∷ b ∷ asks) t h =
    let one = and_parts (nat_le done a.ask.from && nat_le a.ask.from a.ask.until && nat_le a.ask.until len) (are_ordered a.ask.until len (asks_view (b ∷ asks))) h in
    let two = and_parts (nat_le done a.ask.from && nat_le a.ask.from a.ask.until) (nat_le a.ask.until len) one.0 in
    let three = and_parts (nat_le done a.ask.from) (nat_le a.ask.from a.ask.until) two.0 in
    let next = and_parts (nat_le a.ask.until b.ask.from && nat_le b.ask.from b.ask.until && nat_le b.ask.until len) (are_ordered b.ask.until len (asks_view asks)) one.1 in
    let mid = and_parts (nat_le a.ask.until b.ask.from && nat_le b.ask.from b.ask.until) (nat_le b.ask.until len) next.0 in
    let last = and_parts (nat_le a.ask.until b.ask.from) (nat_le b.ask.from b.ask.until) mid.0 in
    ap₂ (λ (v w : Bool). v && w)
    (one_in_turn a b t.0 (leb-true a.ask.from a.ask.until three.1) (leb-true a.ask.until b.ask.from last.0) (leb-true b.ask.from b.ask.until last.1))
    (are_put_in_turn len a.ask.until (b ∷ asks) t.1 one.1)

pub on_ok : {T E : Type 0} (r : Result T E) (P Q : Type 0) → (P → Q) → OnOk r P → OnOk r Q
on_ok (Ok x) P Q f h = f h
on_ok (Err e) P Q f h = h
