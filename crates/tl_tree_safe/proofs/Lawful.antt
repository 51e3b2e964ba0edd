-- What holds of lists of which no word is refused.
use Rattle.std.proofs.Common.{Bool, List, None, Option, Some, [], ap, false, if◌then◌else◌, not, refl, true, ℕ, ◌&&◌, ◌∷◌, ◌≡◌, ◌||◌}
use Rattle.std.specs.List.{list_all}
use Rattle.std.specs.Prelude.{is_none}
use Rattle.std.specs.Option.{option_map, option_or}
use Rattle.std.proofs.lemmas.Bool.{and_from}
use Rattle.tl_safe_fit.specs.Words.{is_among}
use Rattle.tl_tree_safe.specs.Lists.{ListedWords, is_key_byte, is_plain_name, is_tag_byte, is_word_of, lists_plain_names, lists_words, may_mark, opaque_names, rel_key, structural_names}
use Rattle.tl_tree_safe.specs.Refusals.{Refusal, active_keys, are_lawful, class_reason, first_refusal, first_refused, key_reason, known_link_keys, link_reason, prefix_reason, refused_mark, refused_table, refused_word, tag_reason}
use Rattle.tl_tree_safe.specs.declared.refusal.Reason.{Reason}
use Rattle.tl_tree_safe.specs.declared.refusal.Reason.TheVariants.{MalformedKey, MalformedTag, OpaqueTag, StructuralTag, UnlistedMark}

neither : {A : Type 0} (x y : Option A) → option_or x y ≡ None → (x ≡ None) × (y ≡ None)
neither None y h = (refl, h)
neither (Some x) y h = absurd (cc)

unnamed : (word : List ℕ) (r : Option Reason) → option_map (λ (s : Reason). let it : Refusal = (word, s) in it) r ≡ None → r ≡ None
unnamed word None h = refl
unnamed word (Some r) h = absurd (cc)

-- what holds of each word that isn't refused holds of all
none_refused : (reason : List ℕ → Option Reason) (test : List ℕ → Bool) (words : List (List ℕ)) → ((word : List ℕ) → reason word ≡ None → test word ≡ true) → first_refused reason words ≡ None → list_all test words ≡ true
none_refused reason test [] f h = refl
none_refused reason test (word ∷ words) f h =
    let q = neither (option_map (λ (r : Reason). let it : Refusal = (word, r) in it) (reason word)) (first_refused reason words) h in
    and_from _ _ (f word (unnamed word (reason word) q.0)) (none_refused reason test words f q.1)

tag_word : (name : List ℕ) → tag_reason name ≡ None → is_word_of is_tag_byte name ≡ true
tag_word name h = here (is_word_of is_tag_byte name) h
  where
    here : (b : Bool) → (if not b then Some MalformedTag else if is_among opaque_names name then Some OpaqueTag else if is_among structural_names name then Some StructuralTag else None) ≡ None → b ≡ true
    here true e = refl
    here false e = absurd (cc)

plain_name : (name : List ℕ) → tag_reason name ≡ None → is_plain_name name ≡ true
plain_name name h = here (is_word_of is_tag_byte name) (is_among opaque_names name) (is_among structural_names name) h
  where
    here : (b o s : Bool) → (if not b then Some MalformedTag else if o then Some OpaqueTag else if s then Some StructuralTag else None) ≡ None → not o && not s ≡ true
    here b false false e = refl
    here true true s e = absurd (cc)
    here true false true e = absurd (cc)
    here false true s e = absurd (cc)
    here false false true e = absurd (cc)

key_word : (link_keys : List (List ℕ)) (key : List ℕ) → key_reason link_keys key ≡ None → is_word_of is_key_byte key ≡ true
key_word link_keys key h = here (is_word_of is_key_byte key) _ h
  where
    here : (b : Bool) (more : Option Reason) → (if not b then Some MalformedKey else more) ≡ None → b ≡ true
    here true more e = refl
    here false more e = absurd (cc)

abbrev of_mark : Refusal
of_mark = (rel_key, UnlistedMark)

marked : (p : ListedWords) → refused_mark p ≡ None → not p.nofollow_links || may_mark p ≡ true
marked p h = here p.nofollow_links (may_mark p) h
  where
    here : (n m : Bool) → (if n && not m then Some of_mark else None) ≡ None → not n || m ≡ true
    here false m e = refl
    here true true e = refl
    here true false e = absurd (cc)

-- The lists

record Unrefused (p : ListedWords) : Type 0 where
  tags : first_refused tag_reason p.tags ≡ None
  keys : first_refused (key_reason p.link_keys) p.keys ≡ None
  mark : refused_mark p ≡ None

unrefused : (p : ListedWords) → first_refusal p ≡ None → Unrefused p
unrefused p h =
    let a = neither (option_or (refused_word p) (refused_mark p)) (refused_table p.tags) h in
    let b = neither (refused_word p) (refused_mark p) a.0 in
    let c = neither (option_or (option_or (option_or (first_refused tag_reason p.tags) (first_refused (key_reason p.link_keys) p.keys)) (first_refused link_reason p.link_prefixes)) (first_refused class_reason p.classes)) (first_refused prefix_reason (p.id_prefix ∷ [])) b.0 in
    let o = neither (option_or (option_or (first_refused tag_reason p.tags) (first_refused (key_reason p.link_keys) p.keys)) (first_refused link_reason p.link_prefixes)) (first_refused class_reason p.classes) c.0 in
    let d = neither (option_or (first_refused tag_reason p.tags) (first_refused (key_reason p.link_keys) p.keys)) (first_refused link_reason p.link_prefixes) o.0 in
    let e = neither (first_refused tag_reason p.tags) (first_refused (key_reason p.link_keys) p.keys) d.0 in
    record { tags = e.0; keys = e.1; mark = b.1 }

pub lawful : (p : ListedWords) → first_refusal p ≡ None → are_lawful p ≡ true
lawful p h = ap (λ (r : Option Refusal). is_none r) h

pub words : (p : ListedWords) → first_refusal p ≡ None → lists_words p ≡ true
words p h =
    let u = unrefused p h in
    and_from _ _
    (and_from _ _ (none_refused tag_reason (is_word_of is_tag_byte) p.tags tag_word u.tags) (none_refused (key_reason p.link_keys) (is_word_of is_key_byte) p.keys (key_word p.link_keys) u.keys))
    (marked p u.mark)

pub plain : (p : ListedWords) → first_refusal p ≡ None → lists_plain_names p ≡ true
plain p h = none_refused tag_reason is_plain_name p.tags plain_name (unrefused p h).tags
