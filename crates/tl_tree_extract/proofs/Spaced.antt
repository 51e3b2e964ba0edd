-- Texts with white space around them.
use Rattle.std.proofs.Common.{List, [], ap, append-nil, arith, drop, false, get_or, length, refl, suc, sym, take, true, ℕ, ◌-◌, ◌++◌, ◌==◌, ◌∙◌, ◌≡◌, ◌∷◌}
use Rattle.std.specs.List.{list_all, prefix_len}
use Rattle.tl_tree_extract.proofs.Singles.{past-text, two-parts, white-written}
use Rattle.tl_tree_extract.proofs.Smooth.{smooth_text}
use Rattle.tl_tree_extract.specs.Flowing.{after_items, is_white, text_items, written}
use Rattle.tl_tree_extract.specs.Inner.Runs.{AreSmooth, after_run, past_white, run_written}
use Rattle.tl_tree_extract.specs.declared.text.flow.Flow.{Flow}

-- What stands behind a place near the end

pub none_behind : (s : List ℕ) → list_all is_white (drop (length s) s) ≡ true
none_behind [] = refl
none_behind (b ∷ s) = none_behind s

last_alone : (b : ℕ) (s : List ℕ) → get_or (b ∷ s) (length s) 0 ≡ 32 → list_all is_white (drop (length s) (b ∷ s)) ≡ true
last_alone b [] e = ap (λ x. list_all is_white (x ∷ [])) e
last_alone b (c ∷ s) e = last_alone c s e

pub space_behind : (s : List ℕ) → get_or s (length s - 1) 0 ≡ 32 → list_all is_white (drop (length s - 1) s) ≡ true
space_behind [] e = refl
space_behind (b ∷ s) e =
    let last : suc (length s) - 1 ≡ length s = omega arith in
    ap (λ n. list_all is_white (drop n (b ∷ s))) last ∙ last_alone b s (ap (λ n. get_or (b ∷ s) n 0) (sym last) ∙ e)

-- white space, what is written as it is, and white space
pub spaced_text : (f g h : Flow) (s white words line space : List ℕ) (n m : ℕ) → n ≡ prefix_len is_white s → white ≡ take n s → words ≡ drop n s → g ≡ past_white f white →
    line ≡ take m words → space ≡ drop m words → list_all is_white space ≡ true →
    is_white (get_or line 0 32) ≡ false → (get_or line (length line - 1) 32 == 32) ≡ false → AreSmooth line 1 (length line) → h ≡ after_run g line →
    (written f (text_items false s) ≡ run_written g line) × (after_items f (text_items false s) ≡ past_white h space)
spaced_text f g h s white words line space n m e front back is begin end all first last smooth behind =
    let past = past-text f g s white words n e front back is in
    let parts = two-parts g words line space m begin end in
    let own = smooth_text g line first last smooth in
    let none = white-written (after_items g (text_items false line)) space all in (
      past.0 ∙ parts.0 ∙ ap (λ v. written g (text_items false line) ++ v) none.0 ∙ append-nil (written g (text_items false line)) ∙ own.0,
      past.1 ∙ parts.1 ∙ none.1 ∙ ap (λ (v : Flow). past_white v space) (own.1 ∙ sym behind),
    )
