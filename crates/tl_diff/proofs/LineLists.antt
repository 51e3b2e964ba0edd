-- Lines, one behind the other.
use Rattle.std.proofs.Common.{IfNone, List, None, Option, Some, [], ap, ap₂, append_assoc, arith, drop, length, refl, subst, sym, take, take-append-drop, ℕ, ◌+◌, ◌++◌, ◌<◌, ◌∙◌, ◌∷◌, ◌≡◌, ◌≤◌, map, get_or}
use Rattle.std.proofs.lemmas.List.{append-nil, drop-drop, drop-map, get_or-map, length-drop, length-map, take_more_same}
use Rattle.std.specs.Borrow.{Bor}
use Rattle.std.specs.List.{concat}
use Rattle.tl_diff.specs.Scripts.{IsScript, lines_said}
use Rattle.tl_diff.specs.declared.change.Change.{Change}

concat_more : (lines : List (Bor (List ℕ))) (line : Bor (List ℕ)) → concat (lines_said (lines ++ line ∷ [])) ≡ concat (lines_said lines) ++ line.now
concat_more [] line = append-nil line.now
concat_more (first ∷ lines) line = ap (λ t. first.now ++ t) (concat_more lines line) ∙ sym (append_assoc first.now (concat (lines_said lines)) line.now)

-- one more line
pub one_line : (lines all : List (Bor (List ℕ))) (line : Bor (List ℕ)) (rest more text : List ℕ) (n : ℕ)
    → all ≡ lines ++ line ∷ [] → line.now ≡ take n rest → more ≡ drop n rest
    → concat (lines_said lines) ++ rest ≡ text → concat (lines_said all) ++ more ≡ text
one_line lines all line rest more text n is-all is-line is-more e =
    ap₂ (λ t u. concat (lines_said t) ++ u) is-all is-more
    ∙ ap (λ t. t ++ drop n rest) (concat_more lines line ∙ ap (λ t. concat (lines_said lines) ++ t) is-line)
    ∙ append_assoc (concat (lines_said lines)) (take n rest) (drop n rest)
    ∙ ap (λ t. concat (lines_said lines) ++ t) (take-append-drop n rest) ∙ e

-- one more line that both texts have
pub same_more : (xs ys : List (Bor (List ℕ))) (i : ℕ) (d e : Bor (List ℕ)) → i < length xs → i < length ys
    → take i (lines_said xs) ≡ take i (lines_said ys) → (get_or xs i d).now ≡ (get_or ys i e).now
    → take (i + 1) (lines_said xs) ≡ take (i + 1) (lines_said ys)
same_more xs ys i d e lx ly same here =
    let x = get_or-map (λ (line : Bor (List ℕ)). line.now) xs i d [] lx in
    let y = get_or-map (λ (line : Bor (List ℕ)). line.now) ys i e [] ly in
    let len-x : length (lines_said xs) ≡ length xs = length-map xs (λ (line : Bor (List ℕ)). line.now) in
    let len-y : length (lines_said ys) ≡ length ys = length-map ys (λ (line : Bor (List ℕ)). line.now) in
    take_more_same (lines_said xs) (lines_said ys) i [] (rw len-x lx) (rw len-y ly) same (x ∙ here ∙ sym y)

said_drop : (n : ℕ) (xs : List (Bor (List ℕ))) → lines_said (drop n xs) ≡ drop n (lines_said xs)
said_drop n xs = sym (drop-map (λ (line : Bor (List ℕ)). line.now) n xs)

-- both texts end behind what they have in common
pub at_end : (kept : ℕ) (left right behind-left behind-right : List (Bor (List ℕ)))
    → take kept (lines_said left) ≡ take kept (lines_said right)
    → behind-left ≡ drop kept left → behind-right ≡ drop kept right → behind-left ≡ [] → behind-right ≡ []
    → lines_said left ≡ lines_said right
at_end kept left right behind-left behind-right same is-left is-right none-left none-right =
    let l : drop kept (lines_said left) ≡ [] = sym (said_drop kept left) ∙ ap lines_said (sym is-left ∙ none-left) in
    let r : drop kept (lines_said right) ≡ [] = sym (said_drop kept right) ∙ ap lines_said (sym is-right ∙ none-right) in
    sym (take-append-drop kept (lines_said left)) ∙ ap₂ ◌++◌ same (l ∙ sym r) ∙ take-append-drop kept (lines_said right)

-- Scripts

fewer : (kept other : ℕ) (xs : List (List ℕ)) → kept + other ≤ length xs → other ≤ length (drop kept xs)
fewer kept other xs h = let len = length-drop kept xs in omega (arith, h, len)

behind : (from kept other next : ℕ) (xs : List (List ℕ)) → next ≡ from + (kept + other) → drop other (drop kept (drop from xs)) ≡ drop next xs
behind from kept other next xs is =
    let sum : (from + kept) + other ≡ next = omega (arith, is) in
    ap (drop other) (drop-drop kept from xs) ∙ drop-drop other (from + kept) xs ∙ ap (λ n. drop n xs) sum

-- one more change
pub one_change : (changes all more : List Change) (c : Change) (old new : List (List ℕ)) (from to next-from next-to : ℕ)
    → ((rest : List Change) → IsScript rest (drop from old) (drop to new) → IsScript (changes ++ rest) old new)
    → all ≡ changes ++ c ∷ []
    → take c.kept (drop from old) ≡ take c.kept (drop to new)
    → c.kept + c.removed ≤ length (drop from old) → c.kept + c.added ≤ length (drop to new)
    → next-from ≡ from + (c.kept + c.removed) → next-to ≡ to + (c.kept + c.added)
    → IsScript more (drop next-from old) (drop next-to new) → IsScript (all ++ more) old new
one_change changes all more c old new from to next-from next-to so-far is-all same in-old in-new is-from is-to h =
    let two : IsScript more (drop c.removed (drop c.kept (drop from old))) (drop c.added (drop c.kept (drop to new))) =
    subst (λ x. IsScript more (drop c.removed (drop c.kept (drop from old))) x) (sym (behind to c.kept c.added next-to new is-to))
    (subst (λ x. IsScript more x (drop next-to new)) (sym (behind from c.kept c.removed next-from old is-from)) h) in
    let whole : IsScript (changes ++ c ∷ more) old new =
    so-far (c ∷ more) (same, fewer c.kept c.removed (drop from old) in-old, fewer c.kept c.added (drop to new) in-new, two) in
    let items : all ++ more ≡ changes ++ c ∷ more = ap (λ xs. xs ++ more) is-all ∙ append_assoc changes (c ∷ []) more in
    subst (λ xs. IsScript xs old new) (sym items) whole

-- Where the loop stands

pub within : (from n : ℕ) (old left : List (Bor (List ℕ))) → left ≡ drop from old → from ≤ length old → n ≤ length left → from + n ≤ length old
within from n old left is le h =
    let len = length-drop from old in
    let same : length left ≡ length (drop from old) = ap length is in
    omega (arith, le, h, len, same)

pub stepped : (changes all : List Change) (c : Change) (old new left right : List (Bor (List ℕ))) (from to : ℕ)
    → left ≡ drop from old → right ≡ drop to new
    → ((rest : List Change) → IsScript rest (drop from (lines_said old)) (drop to (lines_said new)) → IsScript (changes ++ rest) (lines_said old) (lines_said new))
    → all ≡ changes ++ c ∷ []
    → take c.kept (lines_said left) ≡ take c.kept (lines_said right)
    → c.kept + c.removed ≤ length left → c.kept + c.added ≤ length right
    → (more : List Change) → IsScript more (drop (from + (c.kept + c.removed)) (lines_said old)) (drop (to + (c.kept + c.added)) (lines_said new))
    → IsScript (all ++ more) (lines_said old) (lines_said new)
stepped changes all c old new left right from to is-left is-right so-far is-all same in-left in-right more h =
    let l : lines_said left ≡ drop from (lines_said old) = ap lines_said is-left ∙ said_drop from old in
    let r : lines_said right ≡ drop to (lines_said new) = ap lines_said is-right ∙ said_drop to new in
    let len-l : length left ≡ length (drop from (lines_said old)) = sym (length-map left (λ (line : Bor (List ℕ)). line.now)) ∙ ap length l in
    let len-r : length right ≡ length (drop to (lines_said new)) = sym (length-map right (λ (line : Bor (List ℕ)). line.now)) ∙ ap length r in
    let both : take c.kept (drop from (lines_said old)) ≡ take c.kept (drop to (lines_said new)) =
    ap (take c.kept) (sym l) ∙ same ∙ ap (take c.kept) r in
    one_change changes all more c (lines_said old) (lines_said new) from to (from + (c.kept + c.removed)) (to + (c.kept + c.added))
    so-far is-all both (omega (arith, in-left, len-l)) (omega (arith, in-right, len-r)) refl refl h

-- where nothing changes any more
pub ended : (changes : List Change) (old new left right : List (Bor (List ℕ))) (from to : ℕ)
    → left ≡ drop from old → right ≡ drop to new
    → ((rest : List Change) → IsScript rest (drop from (lines_said old)) (drop to (lines_said new)) → IsScript (changes ++ rest) (lines_said old) (lines_said new))
    → lines_said left ≡ lines_said right → IsScript changes (lines_said old) (lines_said new)
ended changes old new left right from to is-left is-right so-far same =
    let l : lines_said left ≡ drop from (lines_said old) = ap lines_said is-left ∙ said_drop from old in
    let r : lines_said right ≡ drop to (lines_said new) = ap lines_said is-right ∙ said_drop to new in
    let h : drop from (lines_said old) ≡ drop to (lines_said new) = sym l ∙ same ∙ r in
    subst (λ xs. IsScript xs (lines_said old) (lines_said new)) (append-nil changes) (so-far [] h)

pub if_none : (r : Option Change) (P : Type 0) → ((x : Change) → r ≡ Some x → ⊥) → IfNone r P → P
if_none None P h p = p
if_none (Some x) P h p = absurd (h x refl)
