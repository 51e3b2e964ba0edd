-- Characters: a head ends before the first that is seen.
use Rattle.std.proofs.Common.{◌≡◌, ℕ, Bool, true, false, not, ◌||◌, ◌&&◌, ◌==◌, List, [], ◌∷◌, ◌++◌, take, drop, map, refl, ap, ap₂, sym, ◌∙◌, inl, inr, append_assoc}
use Rattle.std.specs.List.{list_any}
use Rattle.std.proofs.lemmas.Bool.{and_parts, cases_Bool, eqb-true}
use Rattle.tl_html_spec.specs.HtmlTokenizer.{Character, EndTag, HtmlToken, is_white_space}
use Rattle.tl_html_spec.specs.Balanced.{Balance, Names, is_head, leading, when}
use Rattle.tl_patch_elements.specs.Inner.Finding.{goes}
use Rattle.tl_patch_elements.proofs.Plain.{dropped_emits, dropped_next, kept_emits, kept_next}
use Rattle.tl_patch_spec.specs.Elements.{OpenElement, PlacedToken, at_piece, balance_after, balanced_at, elements_of, tokens_at}
use Rattle.tl_html_balance.specs.View.{open_names}
use Rattle.tl_patch_elements.specs.Inner.Finding.{Finds, elements_with, is_seen, stack_of}
use Rattle.tl_patch_elements.specs.View.{elements_view}
use Rattle.tl_patch_elements.specs.declared.finder.Finder.{Finder}
use Rattle.tl_patch_elements.proofs.Closing.{last_own}
use Rattle.tl_patch_elements.proofs.Stack.{after_front, skip_character}

abbrev pub bal : Names → Bool → Balance
bal tags feed = record { open_tags = tags; drops_feed = feed }

-- how many heads characters end
abbrev pub ended_heads : List ℕ → Names → ℕ
ended_heads s tags = when (list_any is_seen s) (leading is_head) tags

abbrev ends_at : ℕ → ℕ → Names → List PlacedToken
ends_at p k tags = tokens_at p false (map EndTag (take k tags))

pub record Passes (tags : Names) (feed : Bool) (s : List ℕ) : Type 0 where
  pub elements : (p : ℕ) (stack : List OpenElement) (rest : List PlacedToken) →
      elements_of stack (balanced_at p (bal tags feed) (map Character s) ++ rest)
      ≡ elements_of stack (ends_at p (ended_heads s tags) tags ++ rest)
  pub names : (balance_after (bal tags feed) (map Character s)).open_tags ≡ drop (ended_heads s tags) tags

-- a character that is white or goes is not seen

unseen_white : (b : ℕ) → is_white_space b ≡ true → is_seen b ≡ false
unseen_white b w = elim (cases_Bool (b == 0)) [
  | inl z ↦ rw z refl
  | inr z ↦ rw (z, w) refl
]

unseen_gone : (feed : Bool) (b : ℕ) → goes feed b ≡ true → is_seen b ≡ false
unseen_gone feed b g = elim (cases_Bool (b == 0)) [
  | inl z ↦ rw z refl
  | inr z ↦ (
      let both : (feed && (b == 10)) ≡ true = rw z at g in
      let ten : b ≡ 10 = eqb-true b 10 (and_parts feed (b == 10) both).1 in
      ap is_seen ten)
]

seen_other : (feed : Bool) (b : ℕ) → goes feed b ≡ false → is_white_space b ≡ false → is_seen b ≡ true
seen_other feed b g w = elim (cases_Bool (b == 0)) [
  | inl z ↦ (let no : true ≡ false = rw z at g in cc)
  | inr z ↦ rw (z, w) refl
]

unseen_heads : (b : ℕ) (s : List ℕ) (tags : Names) → is_seen b ≡ false → ended_heads (b ∷ s) tags ≡ ended_heads s tags
unseen_heads b s tags u = ap (λ (v : Bool). when (v || list_any is_seen s) (leading is_head) tags) u

seen_heads : (b : ℕ) (s : List ℕ) (tags : Names) → is_seen b ≡ true → ended_heads (b ∷ s) tags ≡ leading is_head tags
seen_heads b s tags u = ap (λ (v : Bool). when (v || list_any is_seen s) (leading is_head) tags) u

-- after the heads on top no head is there

none_leading : (tags : Names) → leading is_head (drop (leading is_head tags) tags) ≡ 0
none_leading [] = refl
none_leading (t ∷ tags) = elim (cases_Bool (is_head t)) [
  | inl y ↦ rw y (none_leading tags)
  | inr n ↦ rw n (rw n refl)
]

none_when : (v : Bool) (tags : Names) → leading is_head tags ≡ 0 → when v (leading is_head) tags ≡ 0
none_when true tags h = h
none_when false tags h = refl

-- one character more

pub none_pass : (tags : Names) (feed : Bool) → Passes tags feed []
none_pass tags feed = record { elements = λ p stack rest. refl; names = refl }

gone_pass : (tags : Names) (feed : Bool) (b : ℕ) (s : List ℕ) → goes feed b ≡ true → Passes tags false s → Passes tags feed (b ∷ s)
gone_pass tags feed b s g h =
    let e = dropped_emits tags feed b g in
    let n = dropped_next tags feed b g in
    let k = unseen_heads b s tags (unseen_gone feed b g) in
    record {
      elements = λ p stack rest.
          ap₂ (λ (ts : List HtmlToken) (x : Balance). elements_of stack ((tokens_at p false ts ++ balanced_at p x (map Character s)) ++ rest)) e n
          ∙ h.elements p stack rest
          ∙ ap (λ j. elements_of stack (ends_at p j tags ++ rest)) (sym k);
      names = ap (λ (x : Balance). (balance_after x (map Character s)).open_tags) n ∙ h.names ∙ ap (λ j. drop j tags) (sym k);
    }

white_pass : (tags : Names) (feed : Bool) (b : ℕ) (s : List ℕ) → goes feed b ≡ false → is_white_space b ≡ true → Passes tags false s → Passes tags feed (b ∷ s)
white_pass tags feed b s g w h =
    let none : 0 ≡ when (not (is_white_space b)) (leading is_head) tags = rw w refl in
    let e = kept_emits tags feed b 0 g none in
    let n = kept_next tags feed b 0 g none in
    let k = unseen_heads b s tags (unseen_white b w) in
    record {
      elements = λ p stack rest.
          ap₂ (λ (ts : List HtmlToken) (x : Balance). elements_of stack ((tokens_at p false ts ++ balanced_at p x (map Character s)) ++ rest)) e n
          ∙ skip_character stack p false b (balanced_at p (bal tags false) (map Character s) ++ rest)
          ∙ h.elements p stack rest
          ∙ ap (λ j. elements_of stack (ends_at p j tags ++ rest)) (sym k);
      names = ap (λ (x : Balance). (balance_after x (map Character s)).open_tags) n ∙ h.names ∙ ap (λ j. drop j tags) (sym k);
    }

-- nothing more ends
rest_passes : (tags : Names) (s : List ℕ) (p : ℕ) (b : ℕ) (rest : List PlacedToken) → leading is_head tags ≡ 0 → Passes tags false s → (stack : List OpenElement) →
    elements_of stack (at_piece p false (Character b) ∷ (balanced_at p (bal tags false) (map Character s) ++ rest)) ≡ elements_of stack rest
rest_passes tags s p b rest none h stack =
    skip_character stack p false b (balanced_at p (bal tags false) (map Character s) ++ rest)
    ∙ h.elements p stack rest
    ∙ ap (λ j. elements_of stack (ends_at p j tags ++ rest)) (none_when (list_any is_seen s) tags none)

seen_pass : (tags : Names) (feed : Bool) (b : ℕ) (s : List ℕ) → goes feed b ≡ false → is_white_space b ≡ false → ((left : Names) → Passes left false s) → Passes tags feed (b ∷ s)
seen_pass tags feed b s g w more =
    let k : ℕ = leading is_head tags in
    let left : Names = drop k tags in
    let all : k ≡ when (not (is_white_space b)) (leading is_head) tags = rw w refl in
    let e = kept_emits tags feed b k g all in
    let n = kept_next tags feed b k g all in
    let j = seen_heads b s tags (seen_other feed b g w) in
    let none = none_leading tags in
    let h : Passes left false s = more left in
    record {
      elements = λ p stack rest.
          let front : List PlacedToken = ends_at p k tags in
          let body : List PlacedToken = balanced_at p (bal left false) (map Character s) in
          let one : List PlacedToken = at_piece p false (Character b) ∷ [] in
          ap₂ (λ (ts : List HtmlToken) (x : Balance). elements_of stack ((tokens_at p false ts ++ balanced_at p x (map Character s)) ++ rest)) e n
          ∙ ap (λ ts. elements_of stack ((ts ++ body) ++ rest)) (last_own p false (map EndTag (take k tags)) (Character b) [])
          ∙ ap (elements_of stack) (append_assoc (front ++ one) body rest ∙ append_assoc front one (body ++ rest))
          ∙ after_front stack front (at_piece p false (Character b) ∷ (body ++ rest)) rest (rest_passes left s p b rest none h)
          ∙ ap (λ i. elements_of stack (ends_at p i tags ++ rest)) (sym j);
      names = ap (λ (x : Balance). (balance_after x (map Character s)).open_tags) n
          ∙ h.names
          ∙ ap (λ i. drop i left) (none_when (list_any is_seen s) left none)
          ∙ ap (λ i. drop i tags) (sym j);
    }

pub passes : (s : List ℕ) (tags : Names) (feed : Bool) → Passes tags feed s
passes [] tags feed = none_pass tags feed
passes (b ∷ s) tags feed = elim (cases_Bool (goes feed b)) [
  | inl g ↦ gone_pass tags feed b s g (passes s tags false)
  | inr g ↦ (elim (cases_Bool (is_white_space b)) [
    | inl w ↦ white_pass tags feed b s g w (passes s tags false)
    | inr w ↦ seen_pass tags feed b s g w (λ left. passes s left false)
  ])
]

-- a text of a page

pub text_found : (old new : Finder) (p count : ℕ) (s : List ℕ) → count ≡ ended_heads s (open_names old.open_tags) →
    ((rest : List PlacedToken) → elements_with old (tokens_at p false (map EndTag (take count (open_names old.open_tags))) ++ rest) ≡ elements_with new rest) →
    open_names new.open_tags ≡ drop count (open_names old.open_tags) → Finds old new p (map Character s)
text_found old new p count s e h n =
    let tags : Names = open_names old.open_tags in
    record {
      elements = λ feed rest.
          ap (λ es. elements_view old.ended.items ++ es) ((passes s tags feed).elements p (stack_of old) rest)
          ∙ ap (λ i. elements_with old (ends_at p i tags ++ rest)) (sym e)
          ∙ h rest;
      names = λ feed. (passes s tags feed).names ∙ ap (λ i. drop i tags) (sym e) ∙ sym n;
    }

pub text_kept : (f : Finder) (p : ℕ) (s : List ℕ) → ended_heads s (open_names f.open_tags) ≡ 0 → Finds f f p (map Character s)
text_kept f p s e = text_found f f p 0 s (sym e) (λ rest. refl) refl

pub unseen_kept : (f : Finder) (p : ℕ) (s : List ℕ) → list_any is_seen s ≡ false → Finds f f p (map Character s)
unseen_kept f p s e = text_kept f p s (ap (λ (v : Bool). when v (leading is_head) (open_names f.open_tags)) e)

pub headless_kept : (f : Finder) (p : ℕ) (s : List ℕ) → leading is_head (open_names f.open_tags) ≡ 0 → Finds f f p (map Character s)
headless_kept f p s e = text_kept f p s (none_when (list_any is_seen s) (open_names f.open_tags) e)

pub seen_count : (s : List ℕ) (tags : Names) (count : ℕ) → list_any is_seen s ≡ true → count ≡ leading is_head tags → count ≡ ended_heads s tags
seen_count s tags count h e = e ∙ sym (ap (λ (v : Bool). when v (leading is_head) tags) h)
