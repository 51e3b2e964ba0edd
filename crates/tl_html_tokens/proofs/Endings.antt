-- Where the end of a comment stands, byte by byte.
use Rattle.std.proofs.Common.{◌≡◌, ℕ, Bool, true, false, ◌||◌, ◌&&◌, ◌==◌, List, [], ◌∷◌, ◌++◌, codes, inl, inr, refl, ap, sym, ◌∙◌, true≢false, append_assoc, append-nil}
use Rattle.std.specs.Str.{bytes_eq}
use Rattle.std.proofs.lemmas.Bool.{cases_Bool}
use Rattle.tl_html_spec.specs.Sound.{IsSome}
use Rattle.tl_html_tokens.specs.Comments.{before_end, inside, is_end}

and_none : (a : Bool) → (a && false) ≡ false
and_none true = refl
and_none false = refl

and_gone : (a c : Bool) → c ≡ false → (a && c) ≡ false
and_gone true c h = h
and_gone false c h = refl

or_none : (a c : Bool) → a ≡ false → c ≡ false → (a || c) ≡ false
or_none true c h k = h
or_none false c h k = k

or_parts : (a c : Bool) → (a || c) ≡ false → (a ≡ false) × (c ≡ false)
or_parts true c h = absurd (true≢false h)
or_parts false c h = (refl, h)

-- two dashes after other bytes, and what follows them, are no end
no_end : (x : ℕ) (s e : List ℕ) → is_end (x ∷ (s ++ 45 ∷ 45 ∷ e)) ≡ false
no_end x [] e = or_none _ _ (and_gone (x == 45) _ refl) (and_gone (x == 45) _ refl)
no_end x (y ∷ []) e = or_none _ _ (and_gone (x == 45) _ (and_gone (y == 45) _ refl)) (and_gone (x == 45) _ (and_gone (y == 45) _ refl))
no_end x (y ∷ z ∷ []) e =
    or_none _ _ (and_gone (x == 45) _ (and_gone (y == 45) _ (and_gone (z == 33) _ refl))) (and_gone (x == 45) _ (and_gone (y == 45) _ (and_gone (z == 62) _ refl)))
no_end x (y ∷ z ∷ u ∷ []) e =
    or_none _ _ (and_gone (x == 45) _ (and_gone (y == 45) _ (and_gone (z == 33) _ (and_gone (u == 62) _ refl)))) (and_gone (x == 45) _ (and_gone (y == 45) _ (and_gone (z == 62) _ refl)))
no_end x (y ∷ z ∷ u ∷ v ∷ s) e =
    or_none _ _ (and_gone (x == 45) _ (and_gone (y == 45) _ (and_gone (z == 33) _ (and_gone (u == 62) _ refl)))) (and_gone (x == 45) _ (and_gone (y == 45) _ (and_gone (z == 62) _ refl)))

-- what is no end is none with a byte more
end_more : (s : List ℕ) (b : ℕ) → IsSome s → is_end s ≡ false → is_end (s ++ b ∷ []) ≡ false
end_more [] b f h = absurd f
end_more (x ∷ []) b f h = elim (cases_Bool (x == 45)) [
  | inl y ↦ (let never : true ≡ false = rw y at h in absurd (true≢false never))
  | inr n ↦ rw n refl
]
end_more (x ∷ y ∷ []) b f h = elim (cases_Bool (x == 45)) [
  | inl k ↦ elim (cases_Bool (y == 45)) [
    | inl l ↦ (let never : true ≡ false = rw (k, l) at h in absurd (true≢false never))
    | inr n ↦ rw (k, n) refl
  ]
  | inr n ↦ rw n refl
]
end_more (x ∷ y ∷ z ∷ []) b f h = elim (cases_Bool (x == 45)) [
  | inl k ↦ elim (cases_Bool (y == 45)) [
    | inl l ↦ elim (cases_Bool (z == 33)) [
      | inl o ↦ (let never : true ≡ false = rw (k, l, o) at h in absurd (true≢false never))
      | inr n ↦ rw (k, l, n) (and_none (z == 62))
    ]
    | inr n ↦ rw (k, n) refl
  ]
  | inr n ↦ rw n refl
]
end_more (x ∷ y ∷ z ∷ u ∷ []) b f h =
    or_none _ _ (and_gone (x == 45) _ (and_gone (y == 45) _ (and_gone (z == 33) _ (and_none (u == 62))))) (and_gone (x == 45) _ (and_gone (y == 45) _ (and_none (z == 62))))
end_more (x ∷ y ∷ z ∷ u ∷ v ∷ s) b f h =
    or_none _ _ (and_gone (x == 45) _ (and_gone (y == 45) _ (and_gone (z == 33) _ (and_none (u == 62))))) (and_gone (x == 45) _ (and_gone (y == 45) _ (and_none (z == 62))))

-- up to the end

past : (x : ℕ) (s : List ℕ) → is_end (x ∷ s) ≡ false → before_end (x ∷ s) ≡ x ∷ before_end s
past x s h = rw h refl

-- before a byte that stays something stands
opens : (x : ℕ) (s t : List ℕ) → before_end (x ∷ s) ≡ x ∷ t → (is_end (x ∷ s) ≡ false) × (before_end s ≡ t)
opens x s t h = elim (cases_Bool (is_end (x ∷ s))) [
  | inl y ↦ (let never : [] ≡ x ∷ t = rw y at h in cc)
  | inr n ↦ (let more : x ∷ before_end s ≡ x ∷ t = rw n at h in (n, cc))
]

dashes_end : (s e : List ℕ) → before_end (s ++ 45 ∷ 45 ∷ e) ≡ s ++ before_end (45 ∷ 45 ∷ e)
dashes_end [] e = refl
dashes_end (x ∷ s) e = past x (s ++ 45 ∷ 45 ∷ e) (no_end x s e) ∙ ap (λ t. x ∷ t) (dashes_end s e)

one_more : (s : List ℕ) (b : ℕ) → before_end s ≡ s → before_end (s ++ b ∷ []) ≡ s ++ before_end (b ∷ [])
one_more [] b h = refl
one_more (x ∷ s) b h =
    let o = opens x s s h in
    past x (s ++ b ∷ []) (end_more (x ∷ s) b tt o.0) ∙ ap (λ t. x ∷ t) (one_more s b o.1)

byte_stays : (b : ℕ) → (b == 45) ≡ false → before_end (b ∷ []) ≡ b ∷ []
byte_stays b h = rw h refl

after_dash : (s : List ℕ) (b : ℕ) → (b == 45) ≡ false → before_end (s ++ 45 ∷ []) ≡ s → before_end (s ++ 45 ∷ b ∷ []) ≡ s ++ 45 ∷ b ∷ []
after_dash [] b n h = rw n refl
after_dash (x ∷ s) b n h =
    let o = opens x (s ++ 45 ∷ []) s h in
    let more : is_end (x ∷ (s ++ 45 ∷ b ∷ [])) ≡ false = ap (λ t. is_end (x ∷ t)) (sym (append_assoc s (45 ∷ []) (b ∷ []))) ∙ end_more (x ∷ (s ++ 45 ∷ [])) b tt o.0 in
    past x (s ++ 45 ∷ b ∷ []) more ∙ ap (λ t. x ∷ t) (after_dash s b n o.1)

-- at once

abbrev pub at_once : List ℕ → Bool
at_once s = bytes_eq s (codes ">") || bytes_eq s (codes "->")

inside_is : (s : List ℕ) → at_once s ≡ false → inside s ≡ before_end s
inside_is s h = rw h refl

not_dashes : (s e : List ℕ) → at_once (s ++ 45 ∷ 45 ∷ e) ≡ false
not_dashes [] e = refl
not_dashes (x ∷ []) e = or_none _ _ (and_none (x == 62)) (and_gone (x == 45) _ refl)
not_dashes (x ∷ y ∷ []) e = or_none _ _ (and_none (x == 62)) (and_gone (x == 45) _ (and_none (y == 62)))
not_dashes (x ∷ y ∷ z ∷ s) e = or_none _ _ (and_none (x == 62)) (and_gone (x == 45) _ (and_none (y == 62)))

not_dash : (s : List ℕ) → at_once (s ++ 45 ∷ []) ≡ false
not_dash [] = refl
not_dash (x ∷ []) = or_none _ _ (and_none (x == 62)) (and_gone (x == 45) _ refl)
not_dash (x ∷ y ∷ []) = or_none _ _ (and_none (x == 62)) (and_gone (x == 45) _ (and_none (y == 62)))
not_dash (x ∷ y ∷ z ∷ s) = or_none _ _ (and_none (x == 62)) (and_gone (x == 45) _ (and_none (y == 62)))

not_more : (s : List ℕ) (b : ℕ) → IsSome s → before_end s ≡ s → at_once (s ++ b ∷ []) ≡ false
not_more [] b f h = absurd f
not_more (x ∷ []) b f h = elim (cases_Bool (x == 45)) [
  | inl y ↦ (let never : [] ≡ x ∷ [] = rw y at h in cc)
  | inr n ↦ rw n (or_none _ _ (and_none (x == 62)) refl)
]
not_more (x ∷ y ∷ []) b f h = or_none _ _ (and_none (x == 62)) (and_gone (x == 45) _ (and_none (y == 62)))
not_more (x ∷ y ∷ z ∷ s) b f h = or_none _ _ (and_none (x == 62)) (and_gone (x == 45) _ (and_none (y == 62)))

not_after_dash : (s : List ℕ) (b : ℕ) → IsSome s → at_once (s ++ 45 ∷ b ∷ []) ≡ false
not_after_dash [] b f = absurd f
not_after_dash (x ∷ []) b f = or_none _ _ (and_none (x == 62)) (and_gone (x == 45) _ refl)
not_after_dash (x ∷ y ∷ []) b f = or_none _ _ (and_none (x == 62)) (and_gone (x == 45) _ (and_none (y == 62)))
not_after_dash (x ∷ y ∷ z ∷ s) b f = or_none _ _ (and_none (x == 62)) (and_gone (x == 45) _ (and_none (y == 62)))

-- what stands inside

-- some bytes, of which none belongs to an end
pub record IsOpen (s : List ℕ) : Type 0 where
  pub some : IsSome s
  pub kept : inside s ≡ s
  pub all : before_end s ≡ s

-- some bytes before a dash that may begin an end
pub record IsDashed (s : List ℕ) : Type 0 where
  pub some : IsSome s
  pub all : before_end (s ++ 45 ∷ []) ≡ s

some_left : (s t : List ℕ) → IsSome s → IsSome (s ++ t)
some_left [] t h = absurd h
some_left (x ∷ s) t h = tt

some_right : (s : List ℕ) (x : ℕ) (t : List ℕ) → IsSome (s ++ x ∷ t)
some_right [] x t = tt
some_right (y ∷ s) x t = tt

made : (s : List ℕ) → IsSome s → at_once s ≡ false → before_end s ≡ s → IsOpen s
made s f n h = record { some = f; kept = inside_is s n ∙ h; all = h }

pub open_first : (b : ℕ) → (b == 45) ≡ false → (b == 62) ≡ false → IsOpen (b ∷ [])
open_first b n g = made (b ∷ []) tt (rw (g, n) refl) (byte_stays b n)

pub open_second : (b : ℕ) → (b == 45) ≡ false → (b == 62) ≡ false → IsOpen (45 ∷ b ∷ [])
open_second b n g = made (45 ∷ b ∷ []) tt (rw g refl) (rw n refl)

pub open_more : (s : List ℕ) (b : ℕ) → IsOpen s → (b == 45) ≡ false → IsOpen (s ++ b ∷ [])
open_more s b h n =
    made (s ++ b ∷ []) (some_left s (b ∷ []) h.some) (not_more s b h.some h.all) (one_more s b h.all ∙ ap (λ t. s ++ t) (byte_stays b n))

pub open_dashed : (s : List ℕ) → IsOpen s → IsDashed s
open_dashed s h = record { some = h.some; all = one_more s 45 h.all ∙ append-nil s }

pub bang_dashed : (s : List ℕ) → IsDashed (s ++ 45 ∷ 45 ∷ 33 ∷ [])
bang_dashed s = record {
  some = some_right s 45 (45 ∷ 33 ∷ []);
  all = ap before_end (append_assoc s (45 ∷ 45 ∷ 33 ∷ []) (45 ∷ [])) ∙ dashes_end s (33 ∷ 45 ∷ []);
}

pub dashed_open : (s : List ℕ) (b : ℕ) → IsDashed s → (b == 45) ≡ false → IsOpen (s ++ 45 ∷ b ∷ [])
dashed_open s b h n = made (s ++ 45 ∷ b ∷ []) (some_left s (45 ∷ b ∷ []) h.some) (not_after_dash s b h.some) (after_dash s b n h.all)

pub dashes_open : (s : List ℕ) (b : ℕ) → (b == 45) ≡ false → (b == 33) ≡ false → (b == 62) ≡ false → IsOpen (s ++ 45 ∷ 45 ∷ b ∷ [])
dashes_open s b n k g =
    made (s ++ 45 ∷ 45 ∷ b ∷ []) (some_right s 45 (45 ∷ b ∷ [])) (not_dashes s (b ∷ [])) (dashes_end s (b ∷ []) ∙ ap (λ t. s ++ t) (rw (n, k, g) refl))

pub bang_open : (s : List ℕ) (b : ℕ) → (b == 45) ≡ false → (b == 62) ≡ false → IsOpen (s ++ 45 ∷ 45 ∷ 33 ∷ b ∷ [])
bang_open s b n g =
    made (s ++ 45 ∷ 45 ∷ 33 ∷ b ∷ []) (some_right s 45 (45 ∷ 33 ∷ b ∷ [])) (not_dashes s (33 ∷ b ∷ [])) (dashes_end s (33 ∷ b ∷ []) ∙ ap (λ t. s ++ t) (rw (n, g) refl))

-- what an end leaves

pub inside_dash : (s : List ℕ) → IsDashed s → inside (s ++ 45 ∷ []) ≡ s
inside_dash s h = inside_is (s ++ 45 ∷ []) (not_dash s) ∙ h.all

inside_dashes : (s e : List ℕ) → before_end (45 ∷ 45 ∷ e) ≡ [] → inside (s ++ 45 ∷ 45 ∷ e) ≡ s
inside_dashes s e h = inside_is (s ++ 45 ∷ 45 ∷ e) (not_dashes s e) ∙ dashes_end s e ∙ ap (λ t. s ++ t) h ∙ append-nil s

pub inside_two : (s : List ℕ) → inside (s ++ 45 ∷ 45 ∷ []) ≡ s
inside_two s = inside_dashes s [] refl

pub inside_arrow : (s : List ℕ) → inside (s ++ 45 ∷ 45 ∷ 62 ∷ []) ≡ s
inside_arrow s = inside_dashes s (62 ∷ []) refl

pub inside_bang : (s : List ℕ) → inside (s ++ 45 ∷ 45 ∷ 33 ∷ []) ≡ s
inside_bang s = inside_dashes s (33 ∷ []) refl

pub inside_bang_arrow : (s : List ℕ) → inside (s ++ 45 ∷ 45 ∷ 33 ∷ 62 ∷ []) ≡ s
inside_bang_arrow s = inside_dashes s (33 ∷ 62 ∷ []) refl
