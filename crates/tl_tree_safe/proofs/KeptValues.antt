-- Values that stay as they are.
use Rattle.std.proofs.Common.{Bool, List, [], ap, ap₂, arith, cond, false, if◌then◌else◌, not, refl, reverse, subst, sym, true, true≢false, ℕ, ◌&&◌, ◌==◌, ◌++◌, ◌∙◌, ◌∷◌, ◌≡◌, ◌||◌}
use Rattle.std.specs.Char.{is_ascii_uppercase, to_ascii_lowercase}
use Rattle.std.specs.List.{filter, list_all}
use Rattle.std.proofs.lemmas.Bool.{and_from, and_parts, not-true}
use Rattle.std.proofs.lemmas.Bool.Decides.{nat_tests}
use Rattle.std.proofs.lemmas.List.{reverse-append, reverse-reverse}
use Rattle.std.proofs.lemmas.List.Folds.{list_all-append}
use Rattle.std.proofs.lemmas.Slice.Eq.{bytes_eq-Decides}
use Rattle.std.specs.Str.{bytes_eq}
use Rattle.tl_safe_fit.specs.Words.{is_among}
use Rattle.tl_tree_safe.proofs.ClassWords.{classes_all, classes_same}
use Rattle.tl_tree_safe.proofs.Filters.{all_also, filter_same}
use Rattle.tl_tree_safe.proofs.Whole.{whole_stays}
use Rattle.tl_tree_safe.specs.Classes.{are_classes, kept_classes}
use Rattle.tl_tree_safe.specs.Inner.Cleaning.{is_whole}
use Rattle.tl_tree_safe.specs.Inner.Staying.{is_low, is_read_so}
use Rattle.tl_tree_safe.specs.Inner.ValueKinds.{are_listed_names, is_also_listed, is_listed_by, is_listed_front, is_listed_whole, kept_value_by, lacks_front, own_value_by, stays_by, value_kind_at}
use Rattle.tl_tree_safe.specs.Characters.{cleaned, is_said, is_space, said_byte}
use Rattle.tl_tree_safe.specs.Kept.{kept_value}
use Rattle.tl_tree_safe.specs.Lists.{ListedWords, all_begin, are_own_names, class_key, has_front, is_link_byte, is_listed_link, is_listed_value, is_own_name, leads_to_own, naming_keys, referring_keys}
use Rattle.tl_tree_safe.specs.Values.{begins_scheme, is_blank, is_in_line, link_read, lowered_to_colon, own_link, own_names, prefixed, says_names, scheme_lowered, trimmed_end, trimmed_start}
use Rattle.tl_tree_safe.specs.declared.value_kind.ValueKind.{ValueKind}
use Rattle.tl_tree_safe.specs.declared.value_kind.ValueKind.TheVariants.{Classes, Link, Names, Text}

-- Links that are read as they stand

link_unblank : (b : ℕ) → is_link_byte b ≡ true → is_blank b ≡ false
link_unblank b h = grind (arith, nat_tests)

link_in_line : (b : ℕ) → is_link_byte b ≡ true → is_in_line b ≡ true
link_in_line b h = grind (arith, nat_tests)

unlowered : (b : ℕ) → is_ascii_uppercase b ≡ false → to_ascii_lowercase b ≡ b
unlowered b h = grind (arith, nat_tests)

start_whole : (s : List ℕ) → list_all is_link_byte s ≡ true → trimmed_start s ≡ s
start_whole [] h = refl
start_whole (b ∷ s) h =
    ap (λ v. if v then trimmed_start s else b ∷ s) (link_unblank b (and_parts (is_link_byte b) (list_all is_link_byte s) h).0)

all_reverse : (test : ℕ → Bool) (s : List ℕ) → list_all test s ≡ true → list_all test (reverse s) ≡ true
all_reverse test [] h = refl
all_reverse test (b ∷ s) h =
    let q = and_parts (test b) (list_all test s) h in
    ap (list_all test) (reverse-append (b ∷ []) s)
    ∙ list_all-append test (reverse s) (b ∷ [])
    ∙ and_from _ _ (all_reverse test s q.1) (and_from _ _ q.0 refl)

end_whole : (s : List ℕ) → list_all is_link_byte s ≡ true → trimmed_end s ≡ s
end_whole s h = ap reverse (start_whole (reverse s) (all_reverse is_link_byte s h)) ∙ reverse-reverse s

as_it_is : (s : List ℕ) → lowered_to_colon false s ≡ s
as_it_is [] = refl
as_it_is (b ∷ s) = ap (λ t. b ∷ t) (as_it_is s)

low_same : (v : Bool) (s : List ℕ) → is_low s ≡ true → lowered_to_colon v s ≡ s
low_same v [] h = refl
low_same v (b ∷ s) h = here v (b == 58) (is_ascii_uppercase b) refl h (low_same v s)
  where
    here : (w c u : Bool) → is_ascii_uppercase b ≡ u → c || (not u && is_low s) ≡ true → (is_low s ≡ true → lowered_to_colon w s ≡ s)
        → (if w && not c then to_ascii_lowercase b else b) ∷ lowered_to_colon (w && not c) s ≡ b ∷ s
    here false c u e k rec = ap (λ t. b ∷ t) (as_it_is s)
    here true true u e k rec = ap (λ t. b ∷ t) (as_it_is s)
    here true false true e k rec = absurd (true≢false (sym k))
    here true false false e k rec = ap₂ (λ (c : ℕ) (t : List ℕ). c ∷ t) (unlowered b e) (rec k)

scheme_same : (s : List ℕ) → not (begins_scheme s) || is_low s ≡ true → scheme_lowered s ≡ s
scheme_same s h = here (begins_scheme s) h
  where
    here : (v : Bool) → not v || is_low s ≡ true → lowered_to_colon v s ≡ s
    here true k = low_same true s k
    here false k = as_it_is s

read_so : (s : List ℕ) → is_read_so s ≡ true → link_read s ≡ s
read_so s h =
    let q = and_parts (list_all is_link_byte s) (not (begins_scheme s) || is_low s) h in
    ap (λ t. scheme_lowered (filter is_in_line (trimmed_end t))) (start_whole s q.0)
    ∙ ap (λ t. scheme_lowered (filter is_in_line t)) (end_whole s q.0)
    ∙ ap scheme_lowered (filter_same is_in_line s (all_also is_link_byte is_in_line s link_in_line q.0))
    ∙ scheme_same s q.1

-- Names that have the prefix

own_same : (prefix : List ℕ) (v : Bool) (text : List ℕ) → all_begin prefix v text ≡ true → prefixed prefix v text ≡ text
own_same prefix v [] h = refl
own_same prefix v (b ∷ text) h =
    let q = and_parts (has_front prefix v (b ∷ text)) (all_begin prefix (not (is_space b)) text) h in
    ap₂ (λ (front : Bool) (rest : List ℕ). (if front then [] else prefix) ++ b ∷ rest) q.0 (own_same prefix (not (is_space b)) text q.1)

own_link_same : (p : ListedWords) (link : List ℕ) → leads_to_own p link ≡ true → own_link p link ≡ link
own_link_same p [] h = refl
own_link_same p (b ∷ name) h = here (b == 35) h
  where
    here : (v : Bool) → not v || are_own_names p name ≡ true → (if v then b ∷ own_names p name else b ∷ name) ≡ b ∷ name
    here true k = ap (λ t. b ∷ t) (own_same p.id_prefix false name k)
    here false k = refl

-- Classes

whole_byte : (b : ℕ) (v : Bool) → (b == 13) ≡ v → is_said (if v then 32 else b) ≡ true → is_whole (if v then 32 else b) ≡ true
whole_byte b true e s = refl
whole_byte b false e s =
    let q = and_parts (not (b == 0)) (not (b == 27)) s in
    and_from _ _ (and_from _ _ q.0 (ap not e)) q.1

cleaned-whole : (bytes : List ℕ) → list_all is_whole (cleaned bytes) ≡ true
cleaned-whole [] = refl
cleaned-whole (b ∷ bytes) = here (is_said (said_byte b)) refl (cleaned-whole bytes)
  where
    here : (v : Bool) → is_said (said_byte b) ≡ v → list_all is_whole (cleaned bytes) ≡ true → list_all is_whole (cond v (said_byte b ∷ cleaned bytes) (cleaned bytes)) ≡ true
    here true e k = and_from _ _ (whole_byte b (b == 13) refl e) k
    here false e k = k

-- nothing of those that stay is to be cleaned
pub classes_clean : (patterns : List (List ℕ)) (value : List ℕ) → cleaned (kept_classes patterns (cleaned value)) ≡ kept_classes patterns (cleaned value)
classes_clean patterns value =
    whole_stays (kept_classes patterns (cleaned value)) (classes_all is_whole patterns (cleaned value) refl (cleaned-whole value))

-- Values of a kind

link_whole : (b : ℕ) → is_link_byte b ≡ true → is_whole b ≡ true
link_whole b h = grind (arith, nat_tests)

-- one of which all stays
pub whole_value : (p : ListedWords) (kind : ValueKind) (s : List ℕ) → stays_by p kind s ≡ true → kept_value_by p kind s ≡ s
whole_value p Link s h =
    let q = and_parts (is_read_so s) (leads_to_own p s) h in
    let bytes = (and_parts (list_all is_link_byte s) (not (begins_scheme s) || is_low s) q.0).0 in
    ap cleaned (ap (own_link p) (read_so s q.0) ∙ own_link_same p s q.1)
    ∙ whole_stays s (all_also is_link_byte is_whole s link_whole bytes)
whole_value p Classes s h =
    let q = and_parts (are_classes p.classes s) (list_all is_whole s) h in
    ap cleaned (ap (kept_classes p.classes) (whole_stays s q.1) ∙ classes_same p.classes s q.0) ∙ whole_stays s q.1
whole_value p Names s h =
    let q = and_parts (are_own_names p s) (list_all is_whole s) h in
    ap cleaned (own_same p.id_prefix false s q.0) ∙ whole_stays s q.1
whole_value p Text s h = whole_stays s h

-- a link that is read as it stands
pub said_as_read : (p : ListedWords) (s : List ℕ) → is_read_so s ≡ true → own_link p s ≡ own_link p (link_read s)
said_as_read p s h = ap (own_link p) (sym (read_so s h))

-- classes of which nothing is to be cleaned
pub classes_as_read : (patterns : List (List ℕ)) (s : List ℕ) → list_all is_whole s ≡ true → kept_classes patterns s ≡ cleaned (kept_classes patterns (cleaned s))
classes_as_read patterns s h = ap (kept_classes patterns) (sym (whole_stays s h)) ∙ sym (classes_clean patterns s)

-- Names

in_word_same : (prefix s : List ℕ) → list_all (λ b. not (is_space b)) s ≡ true → prefixed prefix true s ≡ s
in_word_same prefix [] h = refl
in_word_same prefix (b ∷ s) h =
    let q = and_parts (not (is_space b)) (list_all (λ b. not (is_space b)) s) h in
    ap (λ (v : Bool). b ∷ prefixed prefix v s) q.0 ∙ ap (λ (t : List ℕ). b ∷ t) (in_word_same prefix s q.1)

-- one word without the prefix
pub lone_prefixed : (prefix s : List ℕ) → lacks_front prefix s ≡ true → prefixed prefix false s ≡ prefix ++ s
lone_prefixed prefix [] h = absurd (true≢false (sym h))
lone_prefixed prefix (b ∷ s) h =
    let q = and_parts (not (has_front prefix false (b ∷ s))) (list_all (λ b. not (is_space b)) (b ∷ s)) h in
    let r = and_parts (not (is_space b)) (list_all (λ b. not (is_space b)) s) q.1 in
    ap (λ (v : Bool). (if v then [] else prefix) ++ b ∷ prefixed prefix (not (is_space b)) s) (not-true (has_front prefix false (b ∷ s)) q.0)
    ∙ ap (λ (v : Bool). prefix ++ b ∷ prefixed prefix v s) r.0
    ∙ ap (λ (t : List ℕ). prefix ++ b ∷ t) (in_word_same prefix s r.1)

-- Values at keys

-- what stays is that of the kind of the key
pub kept_at : (p : ListedWords) (key s : List ℕ) → kept_value p key s ≡ kept_value_by p (value_kind_at p key) s
kept_at p key s = ap cleaned (here (is_among p.link_keys key) (bytes_eq key class_key) (says_names key))
  where
    here : (l c n : Bool) → (if l then own_link p (link_read s) else if c then kept_classes p.classes (cleaned s) else if n then own_names p s else s)
        ≡ own_value_by p (if l then Link else if c then Classes else if n then Names else Text) s
    here true c n = refl
    here false true n = refl
    here false false true = refl
    here false false false = refl

-- no names stand at the key of classes
class_unnamed : (p : ListedWords) (key s : List ℕ) → bytes_eq key class_key ≡ true → are_listed_names p key s ≡ true
class_unnamed p key s h =
    let same : class_key ≡ key = sym ((bytes_eq-Decides key class_key).0 h) in
    subst (λ (k : List ℕ). are_listed_names p k s ≡ true) same refl

last_last : (a b c d : Bool) → a && b && c && d ≡ a && ((b && d) && c)
last_last false b c d = refl
last_last true false c d = refl
last_last true true false false = refl
last_last true true false true = refl
last_last true true true false = refl
last_last true true true true = refl

between : (a c d : Bool) → a && d ≡ true → a && c && d ≡ c
between a c d h =
    let q = and_parts a d h in ap₂ (λ (x y : Bool). x && c && y) q.0 q.1 ∙ last c
  where
    last : (c : Bool) → c && true ≡ c
    last true = refl
    last false = refl

without : (a d : Bool) → a && true && d ≡ a && d
without true d = refl
without false d = refl

neither : (a b : Bool) → a || b ≡ false → (a ≡ false) × (b ≡ false)
neither false false e = (refl, refl)
neither true b e = absurd (true≢false e)
neither false true e = absurd (true≢false e)

-- whether a value may stand at a key
pub listed_at : (p : ListedWords) (key s : List ℕ) → is_listed_value p key s ≡ is_listed_by p (value_kind_at p key) key s
listed_at p key s = here (is_among p.link_keys key) (bytes_eq key class_key) (says_names key) refl refl
  where
    here : (l c n : Bool) → bytes_eq key class_key ≡ c → says_names key ≡ n →
        (not l || is_listed_link p s) && (not (is_among naming_keys key) || is_own_name p s) && (not c || are_classes p.classes s) && (not (is_among referring_keys key) || are_own_names p s)
        ≡ is_listed_by p (if l then Link else if c then Classes else if n then Names else Text) key s
    here true c n e f =
        last_last (is_listed_link p s) (not (is_among naming_keys key) || is_own_name p s) (not c || are_classes p.classes s) (not (is_among referring_keys key) || are_own_names p s)
        ∙ ap (λ (v : Bool). is_listed_link p s && (are_listed_names p key s && (not v || are_classes p.classes s))) (sym e)
    here false true n e f =
        between (not (is_among naming_keys key) || is_own_name p s) (are_classes p.classes s) (not (is_among referring_keys key) || are_own_names p s) (class_unnamed p key s e)
    here false false true e f = without (not (is_among naming_keys key) || is_own_name p s) (not (is_among referring_keys key) || are_own_names p s)
    here false false false e f =
        let q = neither (is_among naming_keys key) (is_among referring_keys key) f in
        ap₂ (λ (x y : Bool). (not x || is_own_name p s) && true && (not y || are_own_names p s)) q.0 q.1

first_of_three : (a b c : Bool) → b ≡ true → c ≡ true → a && b && c ≡ a
first_of_three true b c h k = and_from b c h k
first_of_three false b c h k = refl

-- of one of which all stays
pub listed_whole : (p : ListedWords) (key s : List ℕ) (kind : ValueKind) (found : Bool) → stays_by p kind s ≡ true → found ≡ is_listed_whole p kind key s → found ≡ is_listed_by p kind key s
listed_whole p key s Link found h e =
    let q = and_parts (is_read_so s) (leads_to_own p s) h in
    let bytes = (and_parts (list_all is_link_byte s) (not (begins_scheme s) || is_low s) q.0).0 in
    e
    ∙ ap (λ (v : Bool). v && is_also_listed p key s) (sym (first_of_three (is_listed_front p s) (list_all is_link_byte s) (leads_to_own p s) bytes q.1))
listed_whole p key s Classes found h e = e ∙ sym (and_parts (are_classes p.classes s) (list_all is_whole s) h).0
listed_whole p key s Names found h e = e
listed_whole p key s Text found h e = e

-- whether what stays of a value at a key may stand there, where all of it stays
pub stands_whole : (p : ListedWords) (key s : List ℕ) (kind : ValueKind) (found : Bool) → kind ≡ value_kind_at p key → stays_by p kind s ≡ true → found ≡ is_listed_whole p kind key s
    → (found ≡ is_listed_value p key (kept_value p key s)) × (s ≡ kept_value p key s)
stands_whole p key s kind found k h e =
    let same : s ≡ kept_value p key s = sym (kept_at p key s ∙ ap (λ (kind : ValueKind). kept_value_by p kind s) (sym k) ∙ whole_value p kind s h) in (
      listed_whole p key s kind found h e
          ∙ ap (λ (kind : ValueKind). is_listed_by p kind key s) k
          ∙ sym (listed_at p key s)
          ∙ ap (λ (s : List ℕ). is_listed_value p key s) same,
      same,
    )

-- and where some of it may go
pub stands_kept : (p : ListedWords) (key s : List ℕ) (kind : ValueKind) (kept : List ℕ) (found : Bool) → kind ≡ value_kind_at p key → kept ≡ kept_value_by p kind s → found ≡ is_listed_by p kind key kept
    → (found ≡ is_listed_value p key (kept_value p key s)) × (kept ≡ kept_value p key s)
stands_kept p key s kind kept found k h e =
    let same : kept ≡ kept_value p key s = h ∙ ap (λ (kind : ValueKind). kept_value_by p kind s) k ∙ sym (kept_at p key s) in (
      e
          ∙ ap (λ (kind : ValueKind). is_listed_by p kind key kept) k
          ∙ sym (listed_at p key kept)
          ∙ ap (λ (s : List ℕ). is_listed_value p key s) same,
      same,
    )
