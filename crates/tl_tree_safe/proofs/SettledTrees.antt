-- Trees that are made to stay are settled, and settled trees stay as they are.
use Rattle.std.proofs.Common.{Bool, List, [], ap, ap₂, false, if◌then◌else◌, length, not, refl, sym, true, true≢false, ℕ, ◌&&◌, ◌==◌, ◌∙◌, ◌∷◌, ◌≡◌, ◌≤◌}
use Rattle.std.specs.Prelude.{⊤}
use Rattle.std.specs.List.{list_all}
use Rattle.std.proofs.lemmas.Bool.{and_from, and_parts, le-leb, not-true}
use Rattle.tl_dom_spec.specs.HtmlForest.{HtmlForest, comment, doctype, element, no_trees, text}
use Rattle.tl_dom_spec.specs.Marks.{marked}
use Rattle.tl_dom_spec.specs.Tags.{Tag}
use Rattle.tl_safe_fit.specs.Levels.{most_open}
use Rattle.tl_spec.specs.Lex.ByteClass.{is_void}
use Rattle.tl_tree_safe.proofs.Filters.{filter_all, filter_same}
use Rattle.tl_tree_safe.specs.Fitted.{Names, fitted, in_place, inside, is_read, past_lines, unlined}
use Rattle.tl_tree_safe.specs.Kept.{joined}
use Rattle.tl_tree_safe.specs.Settled.{begins_line, is_none, is_settled_inside, settled}
use Rattle.tl_tree_spec.specs.Builder.{is_flow, mode_of}
use Rattle.tl_tree_spec.specs.Groups.{group}
use Rattle.tl_tree_spec.specs.HtmlForest.{is_empty}
use Rattle.tl_tree_spec.specs.Stays.{is_alone, is_preformatted, may_be_read, may_stand}

abbrev may_be_said : Names → ℕ → Bool
may_be_said names = may_be_read (is_flow (mode_of names))

joined-settled : (names : Names) (f g : HtmlForest) → settled names f ≡ true → settled names g ≡ true → settled names (joined f g) ≡ true
joined-settled names no_trees g h k = k
joined-settled names (text own more) g h k =
    let p = and_parts (list_all (may_be_said names) own.said) (settled names more) h in
    and_from _ _ p.0 (joined-settled names more g p.1 k)
joined-settled names (comment own more) g h k = absurd (true≢false (sym h))
joined-settled names (doctype own more) g h k = absurd (true≢false (sym h))
joined-settled names (element tag below more) g h k =
    let p = and_parts (is_read names tag.name) _ h in
    let q = and_parts (is_settled_inside tag.name below (settled (tag.name ∷ names) below)) (settled names more) p.1 in
    and_from _ _ p.0 (and_from _ _ q.0 (joined-settled names more g q.1 k))

-- Line feeds

past-all : (test : ℕ → Bool) (cs : List ℕ) → list_all test cs ≡ true → list_all test (past_lines cs) ≡ true
past-all test [] h = refl
past-all test (c ∷ cs) h = here (c == 10) (past-all test cs (and_parts (test c) (list_all test cs) h).1)
  where
    here : (b : Bool) → list_all test (past_lines cs) ≡ true → list_all test (if b then past_lines cs else c ∷ cs) ≡ true
    here true k = k
    here false k = h

abbrev BeginsNoLine : List ℕ → Type 0
BeginsNoLine [] = ⊤
BeginsNoLine (c ∷ cs) = (c == 10) ≡ false

past-first : (cs : List ℕ) → BeginsNoLine (past_lines cs)
past-first [] = tt
past-first (c ∷ cs) = here (c == 10) refl (past-first cs)
  where
    here : (b : Bool) → (c == 10) ≡ b → BeginsNoLine (past_lines cs) → BeginsNoLine (if b then past_lines cs else c ∷ cs)
    here true e k = k
    here false e k = e

no_line : (source : ℕ) (cs : List ℕ) (more : HtmlForest) → BeginsNoLine cs → begins_line (unlined more) ≡ false → begins_line (text (marked source cs) (if is_empty cs then unlined more else more)) ≡ false
no_line source [] more h k = k
no_line source (c ∷ cs) more h k = h

unlined-begins : (f : HtmlForest) → begins_line (unlined f) ≡ false
unlined-begins no_trees = refl
unlined-begins (text own more) = no_line own.source (past_lines own.said) more (past-first own.said) (unlined-begins more)
unlined-begins (comment own more) = refl
unlined-begins (doctype own more) = refl
unlined-begins (element tag below more) = refl

unlined-settled : (names : Names) (f : HtmlForest) → settled names f ≡ true → settled names (unlined f) ≡ true
unlined-settled names no_trees h = h
unlined-settled names (text own more) h =
    let p = and_parts (list_all (may_be_said names) own.said) (settled names more) h in
    and_from _ _ (past-all (may_be_said names) own.said p.0) (rest (is_empty (past_lines own.said)) p.1 (unlined-settled names more p.1))
  where
    rest : (b : Bool) → settled names more ≡ true → settled names (unlined more) ≡ true → settled names (if b then unlined more else more) ≡ true
    rest true k u = u
    rest false k u = k
unlined-settled names (comment own more) h = h
unlined-settled names (doctype own more) h = h
unlined-settled names (element tag below more) h = h

-- Trees

inside-settled : (names : Names) (n : List ℕ) (f : HtmlForest) → settled names f ≡ true → is_settled_inside n (inside n f) (settled names (inside n f)) ≡ true
inside-settled names n f h = here (is_void n) (is_preformatted (group n))
  where
    here : (v p : Bool) →
        (if v then is_none (if v then no_trees else if p then unlined f else f)
        else not (p && begins_line (if v then no_trees else if p then unlined f else f)) && settled names (if v then no_trees else if p then unlined f else f)) ≡ true
    here true p = refl
    here false true = and_from _ _ (ap not (unlined-begins f)) (unlined-settled names f h)
    here false false = h

in_place-settled : (names : Names) (n : List ℕ) (f : HtmlForest) → settled names f ≡ true → settled names (in_place n f) ≡ true
in_place-settled names n f h = here (is_void n)
  where
    here : (v : Bool) → settled names (if v then no_trees else f) ≡ true
    here true = refl
    here false = h

pub fitted_settled : (names : Names) (f : HtmlForest) → settled names (fitted names f) ≡ true
fitted_settled names no_trees = refl
fitted_settled names (text own more) = and_from _ _ (filter_all (may_be_said names) own.said) (fitted_settled names more)
fitted_settled names (comment own more) = fitted_settled names more
fitted_settled names (doctype own more) = fitted_settled names more
fitted_settled names (element tag below more) =
    here (is_read names tag.name) refl (fitted_settled (tag.name ∷ names) below) (fitted_settled names below) (fitted_settled names more)
  where
    here : (b : Bool) → is_read names tag.name ≡ b → settled (tag.name ∷ names) (fitted (tag.name ∷ names) below) ≡ true → settled names (fitted names below) ≡ true → settled names (fitted names more) ≡ true →
        settled names (if b then element tag (inside tag.name (fitted (tag.name ∷ names) below)) (fitted names more) else joined (in_place tag.name (fitted names below)) (fitted names more)) ≡ true
    here true e i u m = and_from _ _ e (and_from _ _ (inside-settled (tag.name ∷ names) tag.name (fitted (tag.name ∷ names) below) i) m)
    here false e i u m = joined-settled names (in_place tag.name (fitted names below)) (fitted names more) (in_place-settled names tag.name (fitted names below) u) m

-- Settled trees

past-same : (c : ℕ) (cs : List ℕ) → (c == 10) ≡ false → past_lines (c ∷ cs) ≡ c ∷ cs
past-same c cs e = ap (λ b. if b then past_lines cs else c ∷ cs) e

lines_gone : (source : ℕ) (cs : List ℕ) (more : HtmlForest) → (begins_line more ≡ false → unlined more ≡ more) → begins_line (text (marked source cs) more) ≡ false →
    unlined (text (marked source cs) more) ≡ text (marked source cs) more
lines_gone source [] more k h = ap (λ m. text (marked source []) m) (k h)
lines_gone source (c ∷ cs) more k h = ap (λ (ds : List ℕ). text (marked source ds) (if is_empty ds then unlined more else more)) (past-same c cs h)

unlined-same : (f : HtmlForest) → begins_line f ≡ false → unlined f ≡ f
unlined-same no_trees h = refl
unlined-same (text own more) h = lines_gone own.source own.said more (unlined-same more) h
unlined-same (comment own more) h = refl
unlined-same (doctype own more) h = refl
unlined-same (element tag below more) h = refl

nothing : (f : HtmlForest) → is_none f ≡ true → f ≡ no_trees
nothing no_trees h = refl
nothing (text own more) h = absurd (true≢false (sym h))
nothing (comment own more) h = absurd (true≢false (sym h))
nothing (doctype own more) h = absurd (true≢false (sym h))
nothing (element tag below more) h = absurd (true≢false (sym h))

-- what is in an element that holds something is settled; else nothing is in it
fitted-inside : (n : List ℕ) (names : Names) (f : HtmlForest) → is_settled_inside n f (settled names f) ≡ true → (settled names f ≡ true → fitted names f ≡ f) → inside n (fitted names f) ≡ f
fitted-inside n names f h k = here (is_void n) (is_preformatted (group n)) h
  where
    here : (v p : Bool) → (if v then is_none f else not (p && begins_line f) && settled names f) ≡ true → (if v then no_trees else if p then unlined (fitted names f) else fitted names f) ≡ f
    here true p e = sym (nothing f e)
    here false true e =
        let q = and_parts (not (begins_line f)) (settled names f) e in ap unlined (k q.1) ∙ unlined-same f (not-true (begins_line f) q.0)
    here false false e = k e

pub settled_same : (names : Names) (f : HtmlForest) → settled names f ≡ true → fitted names f ≡ f
settled_same names no_trees h = refl
settled_same names (text own more) h =
    let p = and_parts (list_all (may_be_said names) own.said) (settled names more) h in
    ap₂ (λ (cs : List ℕ) (m : HtmlForest). text (record own { said = cs }) m) (filter_same (may_be_said names) own.said p.0) (settled_same names more p.1)
settled_same names (comment own more) h = absurd (true≢false (sym h))
settled_same names (doctype own more) h = absurd (true≢false (sym h))
settled_same names (element tag below more) h =
    let p = and_parts (is_read names tag.name) _ h in
    let q = and_parts (is_settled_inside tag.name below (settled (tag.name ∷ names) below)) (settled names more) p.1 in
    ap (λ b. if b then element tag (inside tag.name (fitted (tag.name ∷ names) below)) (fitted names more) else joined (in_place tag.name (fitted names below)) (fitted names more)) p.0
    ∙ ap₂ (λ (b m : HtmlForest). element tag b m) (fitted-inside tag.name (tag.name ∷ names) below q.0 (settled_same (tag.name ∷ names) below)) (settled_same names more q.1)

-- Tags that may stand

alone_or_not : (v a : Bool) → v ≡ a → (if v then a else not a) ≡ true
alone_or_not true a e = sym e
alone_or_not false a e = ap not (sym e)

pub standing_stays : (names : Names) (tag : Tag) (below more : HtmlForest) → may_stand names tag.name ≡ true → is_void tag.name ≡ is_alone (group tag.name) → length names ≤ most_open →
    fitted names (element tag below more) ≡ element tag (inside tag.name (fitted (tag.name ∷ names) below)) (fitted names more)
standing_stays names tag below more m a d =
    let read : is_read names tag.name ≡ true = and_from _ _ (and_from _ _ m (alone_or_not (is_void tag.name) (is_alone (group tag.name)) a)) (le-leb (length names) most_open d) in
    ap (λ b. if b then element tag (inside tag.name (fitted (tag.name ∷ names) below)) (fitted names more) else joined (in_place tag.name (fitted names below)) (fitted names more)) read
