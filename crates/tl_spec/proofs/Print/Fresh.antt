-- What was just read is clean, but for empty keys, a `"` inside a value and the tag `command`.
use Rattle.std.proofs.Common.{◌≡◌, ℕ, zero, suc, ◌≢◌, ◌-◌, Bool, true, false, ◌==◌, ◌||◌, not, List, [], ◌∷◌, ◌++◌, length, codes, Option, Some, None, refl, ap, ap₂, sym, ◌∙◌, subst, inl, inr, append_assoc, true≢false, take-append-drop, unwrap_or, if◌then◌else◌}
use Rattle.std.specs.Prelude.{⊤, fold, option_map}
use Rattle.std.specs.List.{AllByRecursion, IsDistinct, prefix_len, take_while, list_all, starts_with, slice_index_or}
use Rattle.std.specs.Str.{bytes_eq, str_eq_ignore_ascii_case}
use Rattle.std.proofs.lemmas.Bool.{cases_Bool, cond_both, or_parts, eqb-true, false_from_ne_true}
use Rattle.indexmap.specs.IndexMap.{insert_entry}
use Rattle.tl_spec.specs.Lex.Attribute.{Pair, attribute, attributes, next_attribute, skip_blanks}
use Rattle.tl_spec.specs.Lex.AttributeList.{IsOther, PlainAttributes, HasOwnKeys, attributes_of, pair_if_some, no_attributes, printed_pairs, with_pair}
use Rattle.tl_spec.proofs.Lex.ByKey.{choose_by_key-all}
use Rattle.tl_spec.proofs.Tree.Pairs.{all-insert_entry, distinct_insert}
use Rattle.std.proofs.lemmas.Cmp.{nat_list_eq_equiv}
use Rattle.tl_spec.specs.Lex.ByteClass.{bang, greater, is_blank, is_closing, is_ident, is_name, is_void, less, slash}
use Rattle.tl_spec.specs.Print.Clean.{AreCleanPairs, AreTamePairs, HaveOwnKeys, IsClean, IsCleanComment, IsCleanStart, IsCleanText, IsName, IsTame}
use Rattle.tl_spec.specs.Tree.Forest.{Forest, PlainTag, Siblings, SourceTag, closes, comment, forest, none, plain, plain_tag, siblings_within, source_tag, tag, text, with_end, with_start, with_token}
use Rattle.tl_spec.specs.Lex.Runs.{after_needle, before_rest, read_many, drop_while}
use Rattle.tl_spec.specs.Lex.Token.{Comment, Doctype, End, Nothing, PlacedToken, Start, Text, Token, token_after_attributes, comment_token, markup, next_placed, next_token, token_after_slash, start_tag, text_token, tokens, word}
use Rattle.tl_spec.proofs.Lex.Bytes.{Stops, all-run, drop_while-no, drop_while-stops, take_while-no, take_while-yes}
use Rattle.tl_spec.proofs.Print.Comments.{front-append}
use Rattle.tl_spec.proofs.Print.Identity.{IsCleanComment-from}
use Rattle.tl_spec.proofs.Print.Lossy.{arrow-here, arrow-later, arrow_parts, begins_arrow, begins_arrow-is, begins_dashes, begins_dashes-is, dashes_parts, none_found, nothing_found, past_arrow}
use Rattle.tl_spec.proofs.Lex.Many.{many_more}
use Rattle.tl_spec.proofs.Lex.Names.{class-IsName, id-IsName}
use Rattle.tl_spec.proofs.Tree.Siblings.{Reading}
use Rattle.tl_spec.proofs.Lex.Steps.{attributes-closing, attributes-more}

-- a run of name bytes, perhaps empty
abbrev IsRun : List ℕ → Type 0
IsRun n = list_all is_name n ≡ true

-- attributes

abbrev AreRuns : List Pair → Type 0
AreRuns ps = AllByRecursion (λ p. IsRun p.0) ps

next-run : (s : List ℕ) (found : Pair × List ℕ) → next_attribute s ≡ Some found → IsRun found.0.0
next-run [] found e = absurd (cc)
next-run (b ∷ s) found e =
    let step : (v : Bool) → is_closing b ≡ v → (if v then None else (let a = attribute (b ∷ s) in Some (a.0, skip_blanks a.1))) ≡ Some found → IsRun found.0.0 = elim [
      | true ↦ λ f e. absurd (cc)
      | false ↦ λ f e. subst IsRun (ap (λ (o : Option (Pair × List ℕ)). (unwrap_or o found).0.0) e) (all-run is_name (b ∷ s))
    ] in
    step (is_closing b) refl e

many-runs : (n : ℕ) (s : List ℕ) → AreRuns (read_many next_attribute n s).0
many-runs zero s = tt
many-runs (suc n) s =
    let step : (r : Option (Pair × List ℕ)) → next_attribute s ≡ r → AreRuns (many_more next_attribute n s r).0 = elim [
      | None ↦ λ _. tt
      | Some found ↦ λ e. (next-run s found e, many-runs n found.1)
    ] in
    step (next_attribute s) refl

AreRuns-attributes : (s : List ℕ) → AreRuns (attributes s).0
AreRuns-attributes s = many-runs (length s) s

-- the attributes of a tag with no name: none, or the first has no name either
abbrev IsBlankStart : List Pair → Type 0
IsBlankStart [] = ⊤
IsBlankStart (p ∷ ps) = p.0 ≡ []

abbrev IsStart : List ℕ → List Pair → Type 0
IsStart [] ps = IsBlankStart ps
IsStart (b ∷ n) ps = ⊤

IsBlankStart-read : (b : ℕ) (s : List ℕ) → is_name b ≡ false → IsBlankStart (attributes (b ∷ s)).0
IsBlankStart-read b s n = elim (cases_Bool (is_closing b)) [
  | inl y ↦ subst (λ (r : List Pair × List ℕ). IsBlankStart r.0) (sym (attributes-closing b s y)) tt
  | inr o ↦ subst (λ (r : List Pair × List ℕ). IsBlankStart r.0) (sym (attributes-more b s o)) (take_while-no is_name b s n)
]

IsStart-read : (b : ℕ) (s : List ℕ) → is_blank b ≡ false → IsStart (take_while is_name (b ∷ s)) (attributes (skip_blanks (drop_while is_name (b ∷ s)))).0
IsStart-read b s h = elim (cases_Bool (is_name b)) [
  | inl y ↦ subst (λ n. IsStart n (attributes (skip_blanks (drop_while is_name (b ∷ s)))).0) (sym (take_while-yes is_name b s y)) tt
  | inr n ↦ (
      let e : skip_blanks (drop_while is_name (b ∷ s)) ≡ b ∷ s = ap skip_blanks (drop_while-no is_name (b ∷ s) n) ∙ drop_while-no is_blank (b ∷ s) h in
      subst (λ m. IsStart m (attributes (skip_blanks (drop_while is_name (b ∷ s)))).0) (sym (take_while-no is_name b s n))
      (subst (λ r. IsBlankStart (attributes r).0) (sym e) (IsBlankStart-read b s n)))
]

-- tokens

abbrev IsFreshToken : Token → Type 0
IsFreshToken (Text bytes) = IsCleanText bytes
IsFreshToken (Comment bytes) = IsCleanComment bytes
IsFreshToken (Start n ps c) = IsRun n × AreRuns ps × IsStart n ps
IsFreshToken _ = ⊤

-- a text up to its first `-->`
record Cut (s r : List ℕ) : Type 0 where
  inside : List ℕ
  parts : s ≡ inside ++ r
  ends : past_arrow inside ≡ Some []
  dashes : begins_dashes s ≡ true → begins_dashes inside ≡ true

tail_of : List ℕ → List ℕ
tail_of [] = []
tail_of (b ∷ s) = s

some_of : Option (List ℕ) → List ℕ
some_of None = []
some_of (Some s) = s

cut-here : (s r w : List ℕ) → s ≡ 45 ∷ 45 ∷ 62 ∷ w → past_arrow s ≡ Some r → Cut s r
unfolding some_of begins_dashes
cut-here s r w e h =
    let is : w ≡ r = ap some_of (sym (arrow-here s w e) ∙ h) in
    record { inside = 45 ∷ 45 ∷ 62 ∷ []; parts = e ∙ ap (λ v. 45 ∷ 45 ∷ 62 ∷ v) is; ends = arrow-here (45 ∷ 45 ∷ 62 ∷ []) [] refl; dashes = λ _. refl }

nonempty : (v : List ℕ) → past_arrow v ≡ Some [] → (x : ℕ) × (y : List ℕ) × (v ≡ x ∷ y)
nonempty [] h = absurd (nothing_found h)
nonempty (x ∷ y) h = (x, y, refl)

dashes-one_more : (a : ℕ) (u inside r : List ℕ) → u ≡ inside ++ r → past_arrow inside ≡ Some [] → begins_dashes (a ∷ u) ≡ true → begins_dashes (a ∷ inside) ≡ true
unfolding tail_of
dashes-one_more a u inside r e h d =
    let p = dashes_parts (a ∷ u) d in
    let l = nonempty inside h in
    let first : a ≡ 45 = ap (λ v. slice_index_or v 0 0) p.1 in
    let rest : u ≡ 45 ∷ p.0 = ap tail_of p.1 in
    let second : l.0 ≡ 45 = ap (λ v. slice_index_or v 0 0) (sym (e ∙ ap (λ v. v ++ r) l.2) ∙ rest) in
    ap₂ (λ x y. begins_dashes (x ∷ y)) first l.2 ∙ ap (λ x. begins_dashes (45 ∷ x ∷ l.1)) second ∙ begins_dashes-is l.1

cut : (s r : List ℕ) → past_arrow s ≡ Some r → Cut s r
cut [] r h = absurd (none_found r h)
cut (a ∷ u) r h = elim (cases_Bool (begins_arrow (a ∷ u))) [
  | inl t ↦ (let p = arrow_parts (a ∷ u) t in cut-here (a ∷ u) r p.0 p.1 h)
  | inr n ↦ (
      let i = cut u r (sym (arrow-later a u n) ∙ h) in
      let no : begins_arrow (a ∷ i.inside) ≡ false = false_from_ne_true _ (λ y.
      let p = arrow_parts (a ∷ i.inside) y in
      true≢false (sym (ap begins_arrow (ap (λ v. a ∷ v) i.parts ∙ ap (λ v. v ++ r) p.1) ∙ begins_arrow-is (p.0 ++ r)) ∙ n)) in
      record {
        inside = a ∷ i.inside;
        parts = ap (λ v. a ∷ v) i.parts;
        ends = arrow-later a i.inside no ∙ i.ends;
        dashes = dashes-one_more a u i.inside r i.parts i.ends;
      })
]

fresh-comment : (whole blanks s : List ℕ) → list_all is_blank blanks ≡ true → whole ≡ 60 ∷ blanks ++ 33 ∷ s → begins_dashes s ≡ true
    → (o : Option (List ℕ)) → past_arrow s ≡ o → IsFreshToken (comment_token whole o).0
unfolding begins_dashes past_arrow
fresh-comment whole blanks s a e d None h = tt
fresh-comment whole blanks s a e d (Some r) h =
    let c = cut s r h in
    let text : List ℕ = 60 ∷ blanks ++ 33 ∷ c.inside in
    let split : whole ≡ text ++ r = e ∙ ap (λ x. 60 ∷ blanks ++ 33 ∷ x) c.parts ∙ sym (append_assoc (60 ∷ blanks) (33 ∷ c.inside) r) in
    let is : before_rest r whole ≡ text = ap (before_rest r) split ∙ front-append text r in
    IsCleanComment-from _ (record { blanks = blanks; inside = c.inside; whole = is; all_blank = a; opens = c.dashes d; ends = c.ends })

abbrev IsFreshRead : Token × List ℕ → Type 0
IsFreshRead r = IsFreshToken r.0

fresh-token_after_slash : (n : List ℕ) (ps : List Pair) (s : List ℕ) → IsFreshToken (Start n ps true) → IsFreshRead (token_after_slash n ps s)
fresh-token_after_slash n ps [] h = tt
fresh-token_after_slash n ps (b ∷ s) h = cond_both (b == greater) _ _ IsFreshRead (λ _. h) (λ _. tt)

fresh-closed : (n : List ℕ) (ps : List Pair) (s : List ℕ) → IsFreshToken (Start n ps true) → IsFreshRead (token_after_attributes n ps s)
fresh-closed n ps [] h = tt
fresh-closed n ps (b ∷ s) h = cond_both (b == greater) _ _ IsFreshRead (λ _. h) (λ _. fresh-token_after_slash n ps s h)

fresh-start : (b : ℕ) (s : List ℕ) → is_blank b ≡ false → IsFreshRead (start_tag (b ∷ s))
fresh-start b s h =
    let r = attributes (skip_blanks (drop_while is_name (b ∷ s))) in
    fresh-closed (take_while is_name (b ∷ s)) r.0 r.1 (all-run is_name (b ∷ s), AreRuns-attributes (skip_blanks (drop_while is_name (b ∷ s))), IsStart-read b s h)

fresh-word : (s : List ℕ) → IsFreshRead (word s)
fresh-word s = cond_both (str_eq_ignore_ascii_case (take_while is_ident s) (codes "doctype")) _ _ IsFreshRead (λ _. tt) (λ _. tt)

fresh-markup : (whole blanks s : List ℕ) → list_all is_blank blanks ≡ true → whole ≡ 60 ∷ blanks ++ s → Stops is_blank s → IsFreshRead (markup whole s)
unfolding begins_dashes past_arrow
fresh-markup whole blanks [] a e h = tt
fresh-markup whole blanks (b ∷ s) a e h =
    cond_both (b == slash) _ _ IsFreshRead (λ _. tt)
    (λ _. cond_both (b == bang) _ _ IsFreshRead
    (λ m. cond_both (starts_with ◌==◌ s (codes "--")) _ _ IsFreshRead
    (λ d. fresh-comment whole blanks s a (e ∙ ap (λ c. 60 ∷ blanks ++ c ∷ s) (eqb-true b 33 m)) d (after_needle (codes "-->") s) refl)
    (λ _. fresh-word s))
    (λ _. fresh-start b s h))

fresh-token : (b : ℕ) (s : List ℕ) → IsFreshRead (if b == less then markup (b ∷ s) (skip_blanks s) else text_token (b ∷ s))
fresh-token b s = cond_both (b == less) _ _ IsFreshRead
    (λ e. fresh-markup (b ∷ s) (take_while is_blank s) (drop_while is_blank s) (all-run is_blank s)
    (ap₂ (λ c x. c ∷ x) (eqb-true b 60 e) (sym (take-append-drop (prefix_len is_blank s) s))) (drop_while-stops is_blank s))
    (λ _. all-run (λ c. not (c == less)) (b ∷ s))

abbrev AreFresh : List PlacedToken → Type 0
AreFresh [] = ⊤
AreFresh (k ∷ ks) = IsFreshToken k.token × AreFresh ks

fresh-next : (s : List ℕ) (found : Token × List ℕ) → next_token s ≡ Some found → IsFreshToken found.0
fresh-next [] found e = absurd (cc)
fresh-next (b ∷ s) found e = subst IsFreshToken (ap (λ (o : Option (Token × List ℕ)). (unwrap_or o found).0) e) (fresh-token b s)

fresh-many : (n m : ℕ) (s : List ℕ) → AreFresh (read_many (next_placed n) m s).0
fresh-many n zero s = tt
fresh-many n (suc m) s =
    let step : (r : Option (Token × List ℕ)) → next_token s ≡ r →
    AreFresh (many_more (next_placed n) m s (option_map {U = PlacedToken × List ℕ} (λ found. (record { token = found.0; from = n - length s; to = n - length found.1 }, found.1)) r)).0 = elim [
      | None ↦ λ _. tt
      | Some found ↦ λ e. (fresh-next s found e, fresh-many n m found.1)
    ] in
    step (next_token s) refl

fresh-tokens : (s : List ℕ) → AreFresh (tokens s)
fresh-tokens s = fresh-many (length s) (length s) s

-- attributes of a tag

record Fine (a : PlainAttributes) : Type 0 where
  runs : AreRuns a.others
  is : HasOwnKeys a

Fine-pair : (a : PlainAttributes) (p : Pair) → Fine a → IsRun p.0 → Fine (with_pair a p)
Fine-pair a p h r =
    choose_by_key-all Fine p.0 _ _ _
    (λ _. record { runs = h.runs; is = record { distinct = h.is.distinct; others = h.is.others } })
    (λ _ _. record { runs = h.runs; is = record { distinct = h.is.distinct; others = h.is.others } })
    (λ other. record {
      runs = all-insert_entry (λ q. IsRun q.0) bytes_eq a.others p.0 p.1 (λ e run. run) r h.runs;
      is = record {
        distinct = distinct_insert bytes_eq nat_list_eq_equiv a.others p.0 p.1 h.is.distinct;
        others = all-insert_entry (λ q. IsOther q.0) bytes_eq a.others p.0 p.1 (λ e o. o) other h.is.others;
      };
    })

Fine-fold : (a : PlainAttributes) (ps : List Pair) → Fine a → AreRuns ps → Fine (fold with_pair a ps)
Fine-fold a [] h r = h
Fine-fold a (p ∷ ps) h r = Fine-fold (with_pair a p) ps (Fine-pair a p h r.0) r.1

Fine-attributes : (ps : List Pair) → AreRuns ps → Fine (attributes_of ps)
unfolding IsDistinct
Fine-attributes ps r = Fine-fold no_attributes ps (record { runs = tt; is = record { distinct = tt; others = tt } }) r

AreRuns-append : (ps qs : List Pair) → AreRuns ps → AreRuns qs → AreRuns (ps ++ qs)
AreRuns-append [] qs h k = k
AreRuns-append (p ∷ ps) qs h k = (h.0, AreRuns-append ps qs h.1 k)

AreRuns-named : (k : List ℕ) (v : Option (List ℕ)) → IsRun k → AreRuns (pair_if_some k v)
AreRuns-named k None h = tt
AreRuns-named k (Some v) h = (h, tt)

AreRuns-printed : (a : PlainAttributes) → AreRuns a.others → AreRuns (printed_pairs a)
AreRuns-printed a h = AreRuns-append _ _ (AreRuns-append a.others _ h (AreRuns-named (codes "id") a.id id-IsName))
    (AreRuns-named (codes "class") a.class class-IsName)

-- the first attribute has no name
abbrev IsHead : List Pair → Type 0
IsHead [] = ⊥
IsHead (p ∷ ps) = p.0 ≡ []

IsHead-insert : (ps : List Pair) (k : List ℕ) (v : Option (List ℕ)) → IsHead ps → IsHead (insert_entry bytes_eq ps k v)
IsHead-insert [] k v h = absurd h
IsHead-insert (p ∷ ps) k v h = cond_both (bytes_eq k p.0) _ _ IsHead (λ _. h) (λ _. h)

abbrev HasHead : PlainAttributes → Type 0
HasHead a = IsHead a.others

HasHead-fold : (a : PlainAttributes) (ps : List Pair) → HasHead a → HasHead (fold with_pair a ps)
HasHead-fold a [] h = h
HasHead-fold a (p ∷ ps) h = HasHead-fold (with_pair a p) ps
    (choose_by_key-all HasHead p.0 _ _ _ (λ _. h) (λ _ _. h) (λ _. IsHead-insert a.others p.0 p.1 h))

IsBlankStart-head : (ps qs : List Pair) → IsHead ps → IsBlankStart (ps ++ qs)
IsBlankStart-head [] qs h = absurd h
IsBlankStart-head (p ∷ ps) qs h = h

IsBlankStart-attributes : (ps : List Pair) → IsBlankStart ps → IsBlankStart (printed_pairs (attributes_of ps))
IsBlankStart-attributes [] h = tt
IsBlankStart-attributes (p ∷ ps) h =
    let a : PlainAttributes = attributes_of (p ∷ ps) in
    let one : HasHead (with_pair no_attributes p) = subst (λ k. HasHead (with_pair no_attributes (k, p.1))) (sym h) refl in
    let all : HasHead a = HasHead-fold (with_pair no_attributes p) ps one in
    subst IsBlankStart (sym (append_assoc a.others (pair_if_some (codes "id") a.id) (pair_if_some (codes "class") a.class))) (IsBlankStart-head a.others _ all)

IsStart-attributes : (n : List ℕ) (ps : List Pair) → IsStart n ps → IsStart n (printed_pairs (attributes_of ps))
IsStart-attributes [] ps h = IsBlankStart-attributes ps h
IsStart-attributes (b ∷ n) ps h = tt

-- trees

record IsFreshTag (own : PlainTag) : Type 0 where
  name : IsRun own.name
  runs : AreRuns (printed_pairs own.attributes)
  start : IsStart own.name (printed_pairs own.attributes)
  keys : HasOwnKeys own.attributes

fresh_tag : (k : PlacedToken) (n : List ℕ) (ps : List Pair) (c : Bool) → IsFreshToken (Start n ps c) → IsFreshTag (plain_tag (source_tag k n ps))
fresh_tag k n ps c h =
    let fine = Fine-attributes ps h.1 in
    record { name = h.0; runs = AreRuns-printed (attributes_of ps) fine.runs; start = IsStart-attributes n ps h.2; keys = fine.is }

abbrev IsFresh : Forest PlainTag → Type 0
IsFresh none = ⊤
IsFresh (text bytes more) = IsCleanText bytes × IsFresh more
IsFresh (comment bytes more) = IsCleanComment bytes × IsFresh more
IsFresh (tag own children more) = IsFreshTag own × (is_void own.name ≡ true → children ≡ none) × IsFresh children × IsFresh more

abbrev AreFreshSiblings : Siblings → Type 0
AreFreshSiblings s = IsFresh (plain s.trees) × AreFresh s.left

abbrev KeepsFresh : Reading → Type 0
KeepsFresh go = (o : Option (List ℕ)) (ks : List PlacedToken) → AreFresh ks → AreFreshSiblings (go o ks)

start-fresh : (go : Reading) (o : Option (List ℕ)) (own : SourceTag) (ks : List PlacedToken) → KeepsFresh go → IsFreshTag (plain_tag own) → AreFresh ks →
    (v : Bool) → (v ≡ false → is_void own.name ≡ false) → AreFreshSiblings (with_start go o own ks v)
start-fresh go o own ks h t f true e = let m = h o ks f in ((t, λ _. refl, tt, m.0), m.1)
start-fresh go o own ks h t f false e =
    let inner = h (Some own.name) ks f in
    let m = h o (go (Some own.name) ks).left inner.1 in
    ((t, λ v. absurd (true≢false (sym v ∙ e refl)), inner.0, m.0), m.1)

end-fresh : (go : Reading) (o : Option (List ℕ)) (k : PlacedToken) (ks : List PlacedToken) → KeepsFresh go → AreFresh ks → (v : Bool) → AreFreshSiblings (with_end go o k ks v)
end-fresh go o k ks h f true = (tt, f)
end-fresh go o k ks h f false = h o ks f

token-fresh : (go : Reading) (o : Option (List ℕ)) (k : PlacedToken) (ks : List PlacedToken) → KeepsFresh go → AreFresh ks → (t : Token) → IsFreshToken t → AreFreshSiblings (with_token go o k ks t)
token-fresh go o k ks h f (Text bytes) t = let m = h o ks f in ((t, m.0), m.1)
token-fresh go o k ks h f (Comment bytes) t = let m = h o ks f in ((t, m.0), m.1)
token-fresh go o k ks h f (Start n ps c) t =
    start-fresh go o (source_tag k n ps) ks h (fresh_tag k n ps c t) f (c || is_void n) (λ e. (or_parts c (is_void n) e).1)
token-fresh go o k ks h f (End n) t = end-fresh go o k ks h f (closes n o)
token-fresh go o k ks h f (Doctype html) t = h o ks f
token-fresh go o k ks h f Nothing t = h o ks f

within-fresh : (n : ℕ) → KeepsFresh (siblings_within n)
within-fresh zero o ks f = (tt, tt)
within-fresh (suc n) o [] f = (tt, tt)
within-fresh (suc n) o (k ∷ ks) f = token-fresh (siblings_within n) o k ks (within-fresh n) f.1 k.token f.0

fresh-forest : (s : List ℕ) → IsFresh (plain (forest (tokens s)))
fresh-forest s = (within-fresh (length (tokens s)) None (tokens s) (fresh-tokens s)).0

-- a tame one is clean

IsName-run : (k : List ℕ) → IsRun k → k ≢ [] → IsName k
IsName-run [] h n = n refl
IsName-run (b ∷ k) h n = h

clean-pairs : (ps : List Pair) → AreRuns ps → AreTamePairs ps → AreCleanPairs ps
clean-pairs [] h t = tt
clean-pairs (p ∷ ps) h t = (IsName-run p.0 h.0 t.0, t.1, clean-pairs ps h.1 t.2)

clean-start : (n : List ℕ) (ps : List Pair) → IsRun n → AreRuns ps → IsStart n ps → AreTamePairs ps → IsCleanStart n ps
clean-start [] [] h r s t = refl
clean-start [] (p ∷ ps) h r s t = absurd (t.0 s)
clean-start (b ∷ n) ps h r s t = (h, clean-pairs ps r t)

clean-fresh : (f : Forest PlainTag) → IsFresh f → IsTame f → IsClean f
clean-fresh none h t = tt
clean-fresh (text u more) h t = (h.0, clean-fresh more h.1 t)
clean-fresh (comment u more) h t = (h.0, clean-fresh more h.1 t)
clean-fresh (tag own children more) h t =
    (record { start = clean-start own.name (printed_pairs own.attributes) h.0.name h.0.runs h.0.start t.0; no_command = t.1 }, h.1, clean-fresh children h.2 t.2, clean-fresh more h.3 t.3)

keys-fresh : (f : Forest PlainTag) → IsFresh f → HaveOwnKeys f
keys-fresh none h = tt
keys-fresh (text u more) h = keys-fresh more h.1
keys-fresh (comment u more) h = keys-fresh more h.1
keys-fresh (tag own children more) h = (h.0.keys, keys-fresh children h.2, keys-fresh more h.3)

pub fresh_is_clean : (t : List ℕ) → IsTame (plain (forest (tokens t))) → IsClean (plain (forest (tokens t)))
fresh_is_clean t h = clean-fresh _ (fresh-forest t) h

pub fresh_has_own_keys : (t : List ℕ) → HaveOwnKeys (plain (forest (tokens t)))
fresh_has_own_keys t = keys-fresh _ (fresh-forest t)
