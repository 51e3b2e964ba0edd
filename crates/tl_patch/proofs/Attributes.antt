-- The attributes that are found in a tag are those that are read of it, each in its place.
use Rattle.std.proofs.Common.{◌≡◌, ◌≤◌, ◌<◌, ℕ, zero, suc, ◌-◌, ◌+◌, Bool, true, false, not, ◌||◌, ◌&&◌, ◌==◌, List, [], ◌∷◌, ◌++◌, length, take, drop, map, refl, ap, ap₂, sym, subst, ◌∙◌, inl, inr, append_assoc, append-nil, arith, if◌then◌else◌, true≢false}
use Rattle.std.specs.Prelude.{⊤, ◌⊎◌}
use Rattle.std.specs.Char.{to_ascii_lowercase}
use Rattle.std.proofs.lemmas.Bool.{and_parts, cases_Bool, eqb-true}
use Rattle.std.proofs.lemmas.List.{drop-drop, map-append}
use Rattle.std.proofs.lemmas.Grind.{flat_map-append}
use Rattle.std.proofs.lemmas.List.Folds.{list_all-append}
use Rattle.std.specs.List.{list_all}
use Rattle.tl_html_spec.specs.HtmlTokenizer.{HtmlAttribute, HtmlToken, OpenTag, Step, char_of}
use Rattle.tl_html_spec.specs.Reader.{Reader, after, emitted, feed}
use Rattle.tl_html_spec.proofs.Fold.{after_append, emitted_append}
use Rattle.tl_html_parts.specs.Bytes.{is_space}
use Rattle.tl_html_parts.specs.Parts.{name_of}
use Rattle.tl_patch_spec.proofs.Inside.{Inner, Inside, Outcome, adding_to, after_key, after_slash, after_value, applied, before_key, before_value, byte_inner, continued, double_quotes, ended, ends, inner_text, key_of, single_quotes, stays, still, value_of, with_all}
use Rattle.tl_patch_spec.proofs.Tags.{all_append, in_tag}
use Rattle.tl_patch.specs.AttributePlaces.{alone, attribute_found, key_at, key_place, next_stage, part, places_from, places_of, valued}
use Rattle.tl_patch.specs.Inner.Cuts.{free_after, is_blank, is_free, opens, over}
use Rattle.tl_patch.specs.declared.stage.KeyPlace.{KeyPlace}
use Rattle.tl_patch.specs.declared.stage.Place.{Place}
use Rattle.tl_patch.specs.declared.stage.Stage.{Stage}
use Rattle.tl_patch.specs.declared.stage.Stage.TheVariants.{AfterKey, BeforeValue, Between, DoubleQuoted, Key, SingleQuoted, Unquoted}
use Rattle.tl_patch.proofs.Ended.{read_inside}
use Rattle.tl_patch.proofs.Gaps.{Bare, adding_none, bare_byte, bare_spaced, plain, text_more}
use Rattle.tl_patch.proofs.Stages.{In, IsBetween, bare, bare_greater, bare_value, between_greater, between_key, between_slash, between_space, double, double_ends, key_more, key_space, after_other, after_space, settle, single, single_ends, value_begins, value_more, value_space}

-- lists

drop_tail : (n : ℕ) (xs : List ℕ) (b : ℕ) (text : List ℕ) → drop n xs ≡ b ∷ text → (drop (suc n) xs ≡ text) × (take (suc n) xs ≡ take n xs ++ b ∷ []) × (n < length xs)
drop_tail zero [] b text e = absurd (never b text e)
  where
    never : (b : ℕ) (text : List ℕ) → [] ≡ b ∷ text → ⊥
    never b text e = cc
drop_tail (suc n) [] b text e = absurd (never b text e)
  where
    never : (b : ℕ) (text : List ℕ) → [] ≡ b ∷ text → ⊥
    never b text e = cc
drop_tail zero (x ∷ xs) b text e = (cc, cc, omega arith)
drop_tail (suc n) (x ∷ xs) b text e =
    let h = drop_tail n xs b text e in
    (h.0, ap (λ ys. x ∷ ys) h.1, (let l : n < length xs = h.2 in omega arith))

abbrev pub keys_of : List HtmlAttribute → List (List ℕ)
keys_of xs = map (λ (x : HtmlAttribute). x.0) xs

-- what is left of a tag that has ended

record Left (add : List HtmlAttribute) (o : Outcome) (closes w : Bool) (xs : List HtmlAttribute) : Type 0 where
  later : List HtmlAttribute
  is : o ≡ ended closes later w []
  all : xs ≡ add ++ later

left_of : (add : List HtmlAttribute) (o : Outcome) (closes w : Bool) (xs : List HtmlAttribute) → adding_to add o ≡ ended closes xs w [] → Left add o closes w xs
left_of add (still i v more) closes w xs e = cc
left_of add (ended c more v rest) closes w xs e = record { later = more; is = same c more v rest e; all = cc }
  where
    same : (c : Bool) (more : List HtmlAttribute) (v : Bool) (rest : List ℕ) → ended c (add ++ more) v rest ≡ ended closes xs w [] → ended c more v rest ≡ ended closes more w []
    same c more v rest e = cc

one_emits : (i j : Inside) (t : OpenTag) (v a : Bool) (b : ℕ) (add : List HtmlAttribute) → byte_inner (v && (b == 10)) i b ≡ stays a j add → emitted (in_tag i t v) (b ∷ []) ≡ []
one_emits i j t v a b add e = ap (λ (x : Step). x.emits ++ []) (read_inside i t v b ∙ ap (applied t) e)

one_after : (i j : Inside) (t : OpenTag) (v a : Bool) (b : ℕ) (add : List HtmlAttribute) → byte_inner (v && (b == 10)) i b ≡ stays a j add → after (in_tag i t v) (b ∷ []) ≡ in_tag j (with_all t add) (b == 13)
one_after i j t v a b add e = ap (λ (x : Step). record { state = x.next; after_return = b == 13 }) (read_inside i t v b ∙ ap (applied t) e)

-- the bytes of a key, one by one

part_one : (at : ℕ) (rest : List ℕ) (b : ℕ) (text : List ℕ) → drop at rest ≡ b ∷ text → part at (suc at) rest ≡ b ∷ []
part_one at rest b text e =
    let one : suc at - at ≡ 1 = omega arith in
    ap₂ (λ n (xs : List ℕ). take n xs) one e

part_more : (start at : ℕ) (rest : List ℕ) (b : ℕ) (text : List ℕ) → start ≤ at → drop at rest ≡ b ∷ text → part start (suc at) rest ≡ part start at rest ++ b ∷ []
part_more start at rest b text l e =
    let n : suc at - start ≡ suc (at - start) = omega arith in
    let m : start + (at - start) ≡ at = omega arith in
    let there : drop (at - start) (drop start rest) ≡ b ∷ text = drop-drop (at - start) start rest ∙ ap (λ k. drop k rest) m ∙ e in
    ap (λ k. take k (drop start rest)) n ∙ (drop_tail (at - start) (drop start rest) b text there).1

name_one : (b : ℕ) → name_of (b ∷ []) ≡ char_of (to_ascii_lowercase b)
name_one b = append-nil (char_of (to_ascii_lowercase b))

name_more : (xs : List ℕ) (b : ℕ) → name_of (xs ++ b ∷ []) ≡ name_of xs ++ char_of (to_ascii_lowercase b)
name_more xs b = flat_map-append (λ c. char_of (to_ascii_lowercase c)) xs (b ∷ []) ∙ ap (λ ys. name_of xs ++ ys) (name_one b)

-- after a value

one_stays : (b : ℕ) (a : Bool) (j : Inside) (text : List ℕ) → settle after_value (feed b) ≡ stays a j [] → inner_text after_value false (b ∷ text) ≡ inner_text j (b == 13) text
one_stays b a j text e =
    ap (λ (x : Inner). continued x (λ j. inner_text j (b == 13) text) (b == 13) text) e ∙ adding_none (inner_text j (b == 13) text)

one_before : (v : Bool) (b : ℕ) (a : Bool) (j : Inside) (text : List ℕ) → (v && (b == 10)) ≡ false → settle before_key (feed b) ≡ stays a j [] → inner_text before_key v (b ∷ text) ≡ inner_text j (b == 13) text
one_before v b a j text p e =
    ap (λ (x : Inner). continued x (λ j. inner_text j (b == 13) text) (b == 13) text) (ap (λ c. byte_inner c before_key b) p ∙ e) ∙ adding_none (inner_text j (b == 13) text)

one_ends : (v : Bool) (b : ℕ) (c : Bool) (text : List ℕ) → (v && (b == 10)) ≡ false → settle before_key (feed b) ≡ ends c [] → inner_text before_key v (b ∷ text) ≡ ended c [] (b == 13) text
one_ends v b c text p e = ap (λ (x : Inner). continued x (λ j. inner_text j (b == 13) text) (b == 13) text) (ap (λ c. byte_inner c before_key b) p ∙ e)

one_passed : (v : Bool) (text : List ℕ) → v ≡ true → inner_text before_key v (10 ∷ text) ≡ inner_text before_key false text
one_passed v text e = ap (λ (c : Bool). inner_text before_key c (10 ∷ text)) e ∙ adding_none (inner_text before_key false text)

-- bytes that are not that byte

space_not : (b c : ℕ) → is_space b ≡ true → is_space c ≡ false → (b == c) ≡ false
space_not b c h n = elim (cases_Bool (b == c)) [
  | inl y ↦ absurd (true≢false (sym h ∙ ap is_space (eqb-true b c y) ∙ n))
  | inr m ↦ m
]

feed_not : (b c : ℕ) → (b == c) ≡ false → (10 == c) ≡ false → (feed b == c) ≡ false
feed_not b c n m = elim (cases_Bool (b == 13)) [
  | inl y ↦ ap (λ (v : Bool). (if v then 10 else b) == c) y ∙ m
  | inr k ↦ ap (λ (v : Bool). (if v then 10 else b) == c) k ∙ n
]

module _ (t : OpenTag) (rest : List ℕ) (closes returned : Bool) (more : List HtmlAttribute) where
  -- so many bytes bring the tokenizer there, and nothing is emitted
  abbrev pub Quiet : List ℕ → Reader → Type 0
  Quiet x r = (emitted (in_tag after_value t false) x ≡ []) × (after (in_tag after_value t false) x ≡ r)

  abbrev name : KeyPlace → List ℕ
  name key = name_of (part key.start key.end rest)

  abbrev pub KeyRead : List HtmlAttribute → KeyPlace → Type 0
  KeyRead front key = Quiet (take key.end rest) (in_tag (key_of (name key)) (with_all t front) false)

  abbrev pub ValueRead : List HtmlAttribute → KeyPlace → ℕ → Type 0
  ValueRead front key value = (v : Bool) × Quiet (take value rest) (in_tag (before_value (name key)) (with_all t front) v)

  abbrev pub PutAt : Bool → Place → List HtmlAttribute → Type 0
  PutAt true p front = ValueRead front p.key p.value
  PutAt false p front = Quiet (take p.value rest) (in_tag (key_of (name p.key)) (with_all t front) false)

  -- what is read of an attribute by itself
  abbrev pub Reads : ℕ → ℕ → Inside → Bool → List HtmlAttribute → Type 0
  Reads from until i v xs = inner_text before_key false (part from until rest) ≡ still i v xs

  -- between two attributes stand blanks, and then something else
  abbrev pub Blank : ℕ → ℕ → Type 0
  Blank from until = (from ≤ until) × (list_all is_blank (part from until rest) ≡ true)

  pub record Begins (start : ℕ) : Type 0 where
    pub first : ℕ
    pub later : List ℕ
    pub is : drop start rest ≡ first ∷ later
    pub no_space : is_space first ≡ false
    pub no_slash : (first == 47) ≡ false
    pub no_greater : (first == 62) ≡ false

  abbrev pub Gap : ℕ → ℕ → Type 0
  Gap last start = Blank last start × Begins start

  -- how an attribute ends
  pub data Kind (p : Place) (old : List ℕ) : Type 0 where
    quoted : Reads p.key.start p.end after_value false ((key_at rest p, old) ∷ []) → Kind p old
    no_value : Reads p.key.start p.end (key_of (key_at rest p)) false [] → is_free (drop p.end rest) ≡ true → old ≡ [] → Kind p old
    unquoted : (i : Inside) → Reads p.key.start p.end i false [] → In bare (key_at rest p) i → opens (drop p.end rest) ≡ true → old ≡ bare_value i → Kind p old
    no_text : (v : Bool) → Reads p.key.start p.end (before_value (key_at rest p)) v [] → over (drop p.end rest) ≡ true → old ≡ [] → Kind p old

  -- an attribute, after those that were found before
  pub record IsAttribute (last : ℕ) (done : List Place) (p : Place) : Type 0 where
    pub front : List HtmlAttribute
    pub old : List ℕ
    pub back : List HtmlAttribute
    pub keys : keys_of front ≡ map (key_at rest) done
    pub all : more ≡ front ++ (key_at rest p, old) ∷ back
    pub left : inner_text after_value false (drop p.end rest) ≡ ended closes back returned []
    pub put : PutAt p.has_equals p front
    pub order : p.value ≤ p.end
    pub inside : p.end ≤ length rest
    pub gap : Gap last p.key.start
    pub key_order : p.key.start < p.end
    pub kind : Kind p old

  abbrev pub AreAttributes : ℕ → List Place → List Place → Type 0
  AreAttributes last done [] = ⊤
  AreAttributes last done (p ∷ ps) = IsAttribute last done p × AreAttributes p.end (done ++ p ∷ []) ps

  -- where the scan stands after so many bytes

  record Base (at : ℕ) (done : List Place) (front : List HtmlAttribute) (i : Inside) (v : Bool) (later : List HtmlAttribute) (text : List ℕ) : Type 0 where
    here : drop at rest ≡ text
    reads : Quiet (take at rest) (in_tag i (with_all t front) v)
    left : inner_text i v text ≡ ended closes later returned []
    all : more ≡ front ++ later
    keys : keys_of front ≡ map (key_at rest) done

  -- a key has begun, and nothing else has been read since
  abbrev Begun : ℕ → ℕ → ℕ → Inside → Bool → Type 0
  Begun last start at i v = Gap last start × Reads start at i v [] × (start < at)

  abbrev Sim : ℕ → ℕ → Stage → List HtmlAttribute → Inside → Bool → List ℕ → Type 0
  Sim last at Between front i v text = IsBetween i × Blank last at
  Sim last at (Key start) front i v text = (i ≡ key_of (name_of (part start at rest))) × (v ≡ false) × (start ≤ at) × Begun last start at i v
  Sim last at (AfterKey key) front i v text =
      (i ≡ after_key (name key)) × KeyRead front key × (inner_text after_value false (drop key.end rest) ≡ inner_text before_key v text) × (key.end ≤ at)
      × Begun last key.start key.end (key_of (name key)) false × (is_free (drop key.end rest) ≡ free_after text) × Blank key.end at
      × Begun last key.start at i v
  Sim last at (BeforeValue key) front i v text = (i ≡ before_value (name key)) × Begun last key.start at i v
  Sim last at (DoubleQuoted key value) front i v text = In double (name key) i × ValueRead front key value × (value ≤ at) × Begun last key.start at i v
  Sim last at (SingleQuoted key value) front i v text = In single (name key) i × ValueRead front key value × (value ≤ at) × Begun last key.start at i v
  Sim last at (Unquoted key value) front i v text = In bare (name key) i × ValueRead front key value × (value ≤ at) × (v ≡ false) × Begun last key.start at i v

  abbrev last_of : ℕ → List Place → ℕ
  last_of last [] = last
  last_of last (p ∷ ps) = last_of p.end ps

  record Inv (last at : ℕ) (s : Stage) (done : List Place) (text : List ℕ) : Type 0 where
    front : List HtmlAttribute
    i : Inside
    v : Bool
    later : List HtmlAttribute
    base : Base at done front i v later text
    sim : Sim last at s front i v text

  -- the tag ends here
  record Over (done : List Place) (text : List ℕ) : Type 0 where
    none : text ≡ []
    keys : keys_of more ≡ map (key_at rest) done

  record Turned (last at : ℕ) (done : List Place) (text : List ℕ) (ps : List Place) (s : Stage) : Type 0 where
    found : AreAttributes last done ps
    next : Inv (last_of last ps) (suc at) s (done ++ ps) text ⊎ Over (done ++ ps) text

  -- a byte that stays in the tag

  record Next (at : ℕ) (done ps : List Place) (front add : List HtmlAttribute) (j : Inside) (v : Bool) (later : List HtmlAttribute) (text : List ℕ) : Type 0 where
    rest_later : List HtmlAttribute
    split : later ≡ add ++ rest_later
    base : Base (suc at) (done ++ ps) (front ++ add) j v rest_later text

  base_stays : (at : ℕ) (done ps : List Place) (front add : List HtmlAttribute) (i j : Inside) (v a : Bool) (later : List HtmlAttribute) (b : ℕ) (text : List ℕ) →
      Base at done front i v later (b ∷ text) → byte_inner (v && (b == 10)) i b ≡ stays a j add → keys_of add ≡ map (key_at rest) ps →
      Next at done ps front add j (b == 13) later text
  base_stays at done ps front add i j v a later b text h e k =
      let d = drop_tail at rest b text h.here in
      let u : OpenTag = with_all t front in
      let went : adding_to add (inner_text j (b == 13) text) ≡ ended closes later returned [] =
      sym (ap (λ (x : Inner). continued x (λ j. inner_text j (b == 13) text) (b == 13) text) e) ∙ h.left in
      let l = left_of add (inner_text j (b == 13) text) closes returned later went in
      record {
        rest_later = l.later;
        split = l.all;
        base = record {
          here = d.0;
          reads = (
            ap (emitted (in_tag after_value t false)) d.1 ∙ emitted_append (in_tag after_value t false) (take at rest) (b ∷ [])
                ∙ ap₂ (λ (ts : List HtmlToken) (r : Reader). ts ++ emitted r (b ∷ [])) h.reads.0 h.reads.1 ∙ one_emits i j u v a b add e,
            ap (after (in_tag after_value t false)) d.1 ∙ after_append (in_tag after_value t false) (take at rest) (b ∷ [])
                ∙ ap (λ (r : Reader). after r (b ∷ [])) h.reads.1 ∙ one_after i j u v a b add e ∙ ap (λ (y : OpenTag). in_tag j y (b == 13)) (all_append t front add),
          );
          left = l.is;
          all = h.all ∙ ap (λ xs. front ++ xs) l.all ∙ sym (append_assoc front add l.later);
          keys = map-append (λ (x : HtmlAttribute). x.0) front add ∙ ap₂ (λ (xs ys : List (List ℕ)). xs ++ ys) h.keys k ∙ sym (map-append (key_at rest) done ps);
        };
      }

  quiet : (last at : ℕ) (done : List Place) (front : List HtmlAttribute) (i j : Inside) (v a : Bool) (later : List HtmlAttribute) (b : ℕ) (text : List ℕ) (s : Stage) →
      Base at done front i v later (b ∷ text) → byte_inner (v && (b == 10)) i b ≡ stays a j [] → Sim last (suc at) s front j (b == 13) text → Turned last at done text [] s
  quiet last at done front i j v a later b text s h e k =
      let n = base_stays at done [] front [] i j v a later b text h e refl in
      record {
        found = tt;
        next = inl (record {
          front = front ++ [];
          i = j;
          v = b == 13;
          later = n.rest_later;
          base = n.base;
          sim = subst (λ xs. Sim last (suc at) s xs j (b == 13) text) (sym (append-nil front)) k;
        });
      }

  -- what is known of an attribute where it ends
  record Whole (last : ℕ) (p : Place) (old : List ℕ) (front : List HtmlAttribute) : Type 0 where
    put : PutAt p.has_equals p front
    order : p.value ≤ p.end
    inside : p.end ≤ length rest
    gap : Gap last p.key.start
    key_order : p.key.start < p.end
    kind : Kind p old

  pushed : (last at : ℕ) (done : List Place) (front : List HtmlAttribute) (i j : Inside) (v a : Bool) (later : List HtmlAttribute) (b : ℕ) (text : List ℕ) (s : Stage) (p : Place) (old : List ℕ) →
      Base at done front i v later (b ∷ text) → byte_inner (v && (b == 10)) i b ≡ stays a j ((key_at rest p, old) ∷ []) →
      inner_text after_value false (drop p.end rest) ≡ inner_text j (b == 13) text → Whole last p old front →
      ((xs : List HtmlAttribute) → Sim p.end (suc at) s xs j (b == 13) text) → Turned last at done text (p ∷ []) s
  pushed last at done front i j v a later b text s p old h e same w k =
      let add : List HtmlAttribute = (key_at rest p, old) ∷ [] in
      let n = base_stays at done (p ∷ []) front add i j v a later b text h e refl in
      record {
        found = (
          record {
            front = front;
            old = old;
            back = n.rest_later;
            keys = h.keys;
            all = h.all ∙ ap (λ xs. front ++ xs) n.split;
            left = same ∙ (n.base).left;
            put = w.put;
            order = w.order;
            inside = w.inside;
            gap = w.gap;
            key_order = w.key_order;
            kind = w.kind;
          },
          tt,
        );
        next = inl (record { front = front ++ add; i = j; v = b == 13; later = n.rest_later; base = n.base; sim = k (front ++ add) });
      }

  -- a byte that ends it

  over_now : (at : ℕ) (done ps : List Place) (front add : List HtmlAttribute) (i : Inside) (v c : Bool) (later : List HtmlAttribute) (b : ℕ) (text : List ℕ) →
      Base at done front i v later (b ∷ text) → byte_inner (v && (b == 10)) i b ≡ ends c add → keys_of add ≡ map (key_at rest) ps → Over (done ++ ps) text
  over_now at done ps front add i v c later b text h e k =
      let went : ended c add (b == 13) text ≡ ended closes later returned [] =
      sym (ap (λ (x : Inner). continued x (λ j. inner_text j (b == 13) text) (b == 13) text) e) ∙ h.left in
      let same : add ≡ later = cc in
      record {
        none = cc;
        keys = ap keys_of (h.all ∙ ap (λ xs. front ++ xs) (sym same)) ∙ map-append (λ (x : HtmlAttribute). x.0) front add
            ∙ ap₂ (λ (xs ys : List (List ℕ)). xs ++ ys) h.keys k ∙ sym (map-append (key_at rest) done ps);
      }

  quiet_end : (last at : ℕ) (done : List Place) (front : List HtmlAttribute) (i : Inside) (v c : Bool) (later : List HtmlAttribute) (b : ℕ) (text : List ℕ) (s : Stage) →
      Base at done front i v later (b ∷ text) → byte_inner (v && (b == 10)) i b ≡ ends c [] → Turned last at done text [] s
  quiet_end last at done front i v c later b text s h e = record { found = tt; next = inr (over_now at done [] front [] i v c later b text h e refl) }

  same_end : (c w : Bool) (text : List ℕ) (add later : List HtmlAttribute) → ended c add w text ≡ ended closes later returned [] → ended c [] w text ≡ ended closes [] returned []
  same_end c w text add later e = cc

  same_add : (c w : Bool) (text : List ℕ) (add later : List HtmlAttribute) → ended c add w text ≡ ended closes later returned [] → later ≡ add
  same_add c w text add later e = cc

  pushed_end : (last at : ℕ) (done : List Place) (front : List HtmlAttribute) (i : Inside) (v c : Bool) (later : List HtmlAttribute) (b : ℕ) (text : List ℕ) (s : Stage) (p : Place) (old : List ℕ) →
      Base at done front i v later (b ∷ text) → byte_inner (v && (b == 10)) i b ≡ ends c ((key_at rest p, old) ∷ []) →
      inner_text after_value false (drop p.end rest) ≡ ended c [] (b == 13) text → Whole last p old front → Turned last at done text (p ∷ []) s
  pushed_end last at done front i v c later b text s p old h e same w =
      let add : List HtmlAttribute = (key_at rest p, old) ∷ [] in
      let went : ended c add (b == 13) text ≡ ended closes later returned [] =
      sym (ap (λ (x : Inner). continued x (λ j. inner_text j (b == 13) text) (b == 13) text) e) ∙ h.left in
      record {
        found = (
          record {
            front = front;
            old = old;
            back = [];
            keys = h.keys;
            all = h.all ∙ ap (λ xs. front ++ xs) (same_add c (b == 13) text add later went);
            left = same ∙ same_end c (b == 13) text add later went;
            put = w.put;
            order = w.order;
            inside = w.inside;
            gap = w.gap;
            key_order = w.key_order;
            kind = w.kind;
          },
          tt,
        );
        next = inr (over_now at done (p ∷ []) front add i v c later b text h e refl);
      }

  -- one byte more

  reads_on : (start at : ℕ) (i j : Inside) (v a : Bool) (add : List HtmlAttribute) (b : ℕ) (text : List ℕ) → start ≤ at → drop at rest ≡ b ∷ text → Reads start at i v [] →
      byte_inner (v && (b == 10)) i b ≡ stays a j add → Reads start (suc at) j (b == 13) add
  reads_on start at i j v a add b text l h r e =
      ap (inner_text before_key false) (part_more start at rest b text l h) ∙ text_more (part start at rest) b before_key i j false v a [] add r e

  begun_on : (last start at : ℕ) (i j : Inside) (v a : Bool) (b : ℕ) (text : List ℕ) → Begun last start at i v → drop at rest ≡ b ∷ text →
      byte_inner (v && (b == 10)) i b ≡ stays a j [] → Begun last start (suc at) j (b == 13)
  begun_on last start at i j v a b text w h e =
      let l : start < at = w.2 in (w.0, reads_on start at i j v a [] b text (omega arith) h w.1 e, omega arith)

  blank_on : (last at b : ℕ) (text : List ℕ) → Blank last at → drop at rest ≡ b ∷ text → is_blank b ≡ true → Blank last (suc at)
  blank_on last at b text w h e =
      let l : last ≤ at = w.0 in (
        omega arith,
        ap (list_all is_blank) (part_more last at rest b text l h) ∙ list_all-append is_blank (part last at rest) (b ∷ [])
            ∙ ap₂ (λ (x y : Bool). x && (y && true)) w.1 e,
      )

  blank_none : (at : ℕ) → Blank at at
  blank_none at = let none : at - at ≡ 0 = omega arith in (omega arith, ap (λ n. list_all is_blank (take n (drop at rest))) none)

  space_blank : (b : ℕ) → is_space b ≡ true → is_blank b ≡ true
  space_blank b y = ap (λ (c : Bool). c || (b == 47)) y

  begun_first : (last at b : ℕ) (text : List ℕ) → Blank last at → drop at rest ≡ b ∷ text → is_space b ≡ false → (b == 47) ≡ false → (b == 62) ≡ false →
      Begun last at (suc at) (key_of (char_of (to_ascii_lowercase b))) (b == 13)
  begun_first last at b text w h n m l =
      let x : Bare b = bare_byte b n in (
        (w, record { first = b; later = text; is = h; no_space = n; no_slash = m; no_greater = l }),
        ap (inner_text before_key false) (part_one at rest b text h)
            ∙ ap (λ (z : Inner). continued z (λ j. inner_text j (b == 13) []) (b == 13) []) (ap (settle before_key) x.fed ∙ between_key before_key tt b (plain b n m l)),
        omega arith,
      )

  -- stage by stage

  as_found : (last at : ℕ) (done : List Place) (text : List ℕ) (ps qs : List Place) (s r : Stage) → qs ≡ ps → r ≡ s → Turned last at done text ps s → Turned last at done text qs r
  as_found last at done text ps qs s r e f h = subst (λ q. Turned last at done text qs q) (sym f) (subst (λ xs. Turned last at done text xs s) (sym e) h)

  module _ (last at : ℕ) (done : List Place) (front : List HtmlAttribute) (i : Inside) (v : Bool) (later : List HtmlAttribute) (text : List ℕ) where
    not_passed : (b : ℕ) → (v && (b == 10)) ≡ false → byte_inner (v && (b == 10)) i b ≡ settle i (feed b)
    not_passed b p = ap (λ c. byte_inner c i b) p

    abbrev GoalAt : Stage → ℕ → Type 0
    GoalAt s b = (v && (b == 10)) ≡ false → Base at done front i v later (b ∷ text) → Sim last at s front i v (b ∷ text) → Turned last at done text (attribute_found s at b) (next_stage s at b)

    at_this : (s : Stage) (b c : ℕ) → b ≡ c → GoalAt s c → GoalAt s b
    at_this s b c e g = subst (GoalAt s) (sym e) g

    read_here : (j : Inside) (w : Bool) → i ≡ j → v ≡ w → Quiet (take at rest) (in_tag i (with_all t front) v) → Quiet (take at rest) (in_tag j (with_all t front) w)
    read_here j w e f h = (h.0, h.1 ∙ ap₂ (λ x y. in_tag x (with_all t front) y) e f)

    begun_here : (from start : ℕ) (j : Inside) (w : Bool) → i ≡ j → v ≡ w → Begun from start at i v → Begun from start at j w
    begun_here from start j w e f h = (h.0, h.1 ∙ ap₂ (λ x y. still x y []) e f, h.2)

    within : (b : ℕ) → drop at rest ≡ b ∷ text → at < length rest
    within b h = (drop_tail at rest b text h).2

    key_begins : (from : ℕ) (b : ℕ) → is_space b ≡ false → (b == 47) ≡ false → (b == 62) ≡ false → Blank from at → drop at rest ≡ b ∷ text → (xs : List HtmlAttribute) →
        Sim from (suc at) (Key at) xs (key_of (char_of (to_ascii_lowercase b))) (b == 13) text
    key_begins from b n m l w h xs = (
      ap key_of (sym (name_one b) ∙ ap name_of (sym (part_one at rest b text h))),
      (bare_byte b n).no_return,
      omega arith,
      begun_first from at b text w h n m l,
    )

    turn_between : (b : ℕ) → GoalAt Between b
    turn_between b = elim (cases_Bool (is_space b)) [
      | inl y ↦ λ p h w. as_found last at done text [] [] Between (next_stage Between at b) refl (rw y refl)
          (quiet last at done front i before_key v false later b text Between h (not_passed b p ∙ between_space i w.0 (feed b) y) (tt, blank_on last at b text w.1 h.here (space_blank b y)))
      | inr n ↦ elim (cases_Bool (b == 47)) [
        | inl y ↦ at_this Between b 47 (eqb-true b 47 y) (λ p h w.
            quiet last at done front i after_slash v false later 47 text Between h (not_passed 47 p ∙ between_slash i w.0) (tt, blank_on last at 47 text w.1 h.here refl))
        | inr m ↦ elim (cases_Bool (b == 62)) [
          | inl y ↦ at_this Between b 62 (eqb-true b 62 y) (λ p h w. (let g = between_greater i w.0 in quiet_end last at done front i v g.0 later 62 text Between h (not_passed 62 p ∙ g.1)))
          | inr l ↦ λ p h w. as_found last at done text [] [] (Key at) (next_stage Between at b) refl (rw (n, m, l) refl)
              (quiet last at done front i (key_of (char_of (to_ascii_lowercase b))) v false later b text (Key at) h
              (not_passed b p ∙ ap (settle i) (bare_byte b n).fed ∙ between_key i w.0 b (plain b n m l))
              (key_begins last b n m l w.1 h.here front))
        ]
      ]
    ]

    key_whole : (start : ℕ) (b : ℕ) → drop at rest ≡ b ∷ text → ((b == 47) || (b == 62)) ≡ true → is_space b ≡ false → Base at done front i v later (b ∷ text) →
        Sim last at (Key start) front i v (b ∷ text) → Whole last (alone (key_place start at)) [] front
    key_whole start b d e n h w =
        let l : at < length rest = within b d in
        let o : start ≤ at = w.2 in
        let k : List ℕ = name_of (part start at rest) in
        let g = begun_here last start (key_of k) false w.0 w.1 w.3 in
        record {
          put = read_here (key_of k) false w.0 w.1 h.reads;
          order = omega arith;
          inside = omega arith;
          gap = g.0;
          key_order = g.2;
          kind = no_value g.1 (ap is_free d ∙ ap (λ (c : Bool). if c then free_after text else (b == 47) || (b == 62)) n ∙ e) refl;
        }

    turn_key : (start : ℕ) (b : ℕ) → GoalAt (Key start) b
    turn_key start b = elim (cases_Bool (is_space b)) [
      | inl y ↦ λ p h w. (
          let k : List ℕ = name_of (part start at rest) in
          let key : KeyPlace = key_place start at in
          let e = not_passed b p ∙ ap (λ x. settle x (feed b)) w.0 ∙ key_space k (feed b) y in
          as_found last at done text [] (attribute_found (Key start) at b) (AfterKey key) (next_stage (Key start) at b)
          (rw (space_not b 47 y refl, space_not b 62 y refl) refl) (rw y refl)
          (quiet last at done front i (after_key k) v false later b text (AfterKey key) h e (
            refl,
            read_here (key_of k) false w.0 w.1 h.reads,
            ap (inner_text after_value false) h.here ∙ one_stays b false before_key text (between_space after_value tt (feed b) y),
            omega arith,
            begun_here last start (key_of k) false w.0 w.1 w.3,
            ap is_free h.here ∙ ap (λ (c : Bool). if c then free_after text else (b == 47) || (b == 62)) y,
            blank_on at at b text (blank_none at) h.here (space_blank b y),
            begun_on last start at i (after_key k) v false b text w.3 h.here e,
          )))
      | inr n ↦ elim (cases_Bool (b == 47)) [
        | inl y ↦ at_this (Key start) b 47 (eqb-true b 47 y) (λ p h w.
            pushed last at done front i after_slash v false later 47 text Between (alone (key_place start at)) [] h
            (not_passed 47 p ∙ ap (λ x. settle x 47) w.0)
            (ap (inner_text after_value false) h.here ∙ one_stays 47 false after_slash text refl)
            (key_whole start 47 h.here refl refl h w) (λ xs. (tt, blank_on at at 47 text (blank_none at) h.here refl)))
        | inr m ↦ elim (cases_Bool (b == 62)) [
          | inl y ↦ at_this (Key start) b 62 (eqb-true b 62 y) (λ p h w.
              pushed_end last at done front i v false later 62 text Between (alone (key_place start at)) [] h
              (not_passed 62 p ∙ ap (λ x. settle x 62) w.0) (ap (inner_text after_value false) h.here) (key_whole start 62 h.here refl refl h w))
          | inr l ↦ elim (cases_Bool (b == 61)) [
            | inl y ↦ at_this (Key start) b 61 (eqb-true b 61 y) (λ p h w. (
                let k : List ℕ = name_of (part start at rest) in
                let e = not_passed 61 p ∙ ap (λ x. settle x 61) w.0 in
                quiet last at done front i (before_value k) v false later 61 text (BeforeValue (key_place start at)) h e
                (refl, begun_on last start at i (before_value k) v false 61 text w.3 h.here e)))
            | inr q ↦ λ p h w. (
                let k : List ℕ = name_of (part start at rest) in
                let x : Bare b = bare_byte b n in
                let o : start ≤ at = w.2 in
                let e = not_passed b p ∙ ap (settle i) x.fed ∙ ap (λ z. settle z b) w.0 ∙ key_more k b (plain b n m l) q in
                as_found last at done text [] (attribute_found (Key start) at b) (Key start) (next_stage (Key start) at b) (rw (m, l) refl) (rw (n, m, l, q) refl)
                (quiet last at done front i (key_of (k ++ char_of (to_ascii_lowercase b))) v false later b text (Key start) h e (
                  ap key_of (sym (name_more (part start at rest) b) ∙ ap name_of (sym (part_more start at rest b text o h.here))),
                  x.no_return,
                  omega arith,
                  begun_on last start at i (key_of (k ++ char_of (to_ascii_lowercase b))) v false b text w.3 h.here e,
                )))
          ]
        ]
      ]
    ]

    after_whole : (key : KeyPlace) (b : ℕ) → drop at rest ≡ b ∷ text → is_space b ≡ false → (b == 61) ≡ false →
        Sim last at (AfterKey key) front i v (b ∷ text) → Whole last (alone key) [] front
    after_whole key b d n q w =
        let l : at < length rest = within b d in
        let o : key.end ≤ at = w.3 in
        let z : key.start < key.end = w.4.2 in
        record {
          put = w.1;
          order = omega arith;
          inside = omega arith;
          gap = w.4.0;
          key_order = z;
          kind = no_value w.4.1 (w.5 ∙ ap (λ (c : Bool). if c then free_after text else not (b == 61)) n ∙ ap not q) refl;
        }

    turn_after : (key : KeyPlace) (b : ℕ) → GoalAt (AfterKey key) b
    turn_after key b = elim (cases_Bool (is_space b)) [
      | inl y ↦ λ p h w. (
          let o : key.end ≤ at = w.3 in
          as_found last at done text [] (attribute_found (AfterKey key) at b) (AfterKey key) (next_stage (AfterKey key) at b) (rw y refl) (rw y refl)
          (quiet last at done front i (after_key (name key)) v false later b text (AfterKey key) h
          (not_passed b p ∙ ap (λ x. settle x (feed b)) w.0 ∙ after_space (name key) (feed b) y) (
            refl,
            w.1,
            w.2 ∙ one_before v b false before_key text p (between_space before_key tt (feed b) y),
            omega arith,
            w.4,
            w.5 ∙ ap (λ (c : Bool). if c then free_after text else not (b == 61)) y,
            blank_on key.end at b text w.6 h.here (space_blank b y),
            begun_on last key.start at i (after_key (name key)) v false b text w.7 h.here (not_passed b p ∙ ap (λ x. settle x (feed b)) w.0 ∙ after_space (name key) (feed b) y),
          )))
      | inr n ↦ elim (cases_Bool (b == 47)) [
        | inl y ↦ at_this (AfterKey key) b 47 (eqb-true b 47 y) (λ p h w.
            pushed last at done front i after_slash v false later 47 text Between (alone key) [] h
            (not_passed 47 p ∙ ap (λ x. settle x 47) w.0)
            (w.2 ∙ one_before v 47 false after_slash text p refl) (after_whole key 47 h.here refl refl w) (λ xs. (tt, blank_on key.end at 47 text w.6 h.here refl)))
        | inr m ↦ elim (cases_Bool (b == 62)) [
          | inl y ↦ at_this (AfterKey key) b 62 (eqb-true b 62 y) (λ p h w.
              pushed_end last at done front i v false later 62 text Between (alone key) [] h
              (not_passed 62 p ∙ ap (λ x. settle x 62) w.0)
              (w.2 ∙ one_ends v 62 false text p refl) (after_whole key 62 h.here refl refl w))
          | inr l ↦ elim (cases_Bool (b == 61)) [
            | inl y ↦ at_this (AfterKey key) b 61 (eqb-true b 61 y) (λ p h w.
                quiet last at done front i (before_value (name key)) v false later 61 text (BeforeValue key) h
                (not_passed 61 p ∙ ap (λ x. settle x 61) w.0)
                (refl, begun_on last key.start at i (before_value (name key)) v false 61 text w.7 h.here (not_passed 61 p ∙ ap (λ x. settle x 61) w.0)))
            | inr q ↦ λ p h w. (
                let x : Bare b = bare_byte b n in
                as_found last at done text (alone key ∷ []) (attribute_found (AfterKey key) at b) (Key at) (next_stage (AfterKey key) at b) (rw (n, q) refl) (rw (n, q, m, l) refl)
                (pushed last at done front i (key_of (char_of (to_ascii_lowercase b))) v false later b text (Key at) (alone key) [] h
                (not_passed b p ∙ ap (settle i) x.fed ∙ ap (λ z. settle z b) w.0 ∙ after_other (name key) b (plain b n m l) q)
                (w.2 ∙ one_before v b false (key_of (char_of (to_ascii_lowercase b))) text p (ap (settle before_key) x.fed ∙ between_key before_key tt b (plain b n m l)))
                (after_whole key b h.here n q w) (λ xs. key_begins key.end b n m l w.6 h.here xs)))
          ]
        ]
      ]
    ]

    turn_before : (key : KeyPlace) (b : ℕ) → GoalAt (BeforeValue key) b
    turn_before key b = elim (cases_Bool (is_space b)) [
      | inl y ↦ λ p h w. (
          let e = not_passed b p ∙ ap (λ x. settle x (feed b)) w.0 ∙ value_space (name key) (feed b) y in
          as_found last at done text [] (attribute_found (BeforeValue key) at b) (BeforeValue key) (next_stage (BeforeValue key) at b) (rw (space_not b 62 y refl) refl) (rw y refl)
          (quiet last at done front i (before_value (name key)) v false later b text (BeforeValue key) h e
          (refl, begun_on last key.start at i (before_value (name key)) v false b text w.1 h.here e)))
      | inr n ↦ elim (cases_Bool (b == 34)) [
        | inl y ↦ at_this (BeforeValue key) b 34 (eqb-true b 34 y) (λ p h w. (
            let j : Inside = value_of (double_quotes (name key) []) in
            let e = not_passed 34 p ∙ ap (λ x. settle x 34) w.0 in
            quiet last at done front i j v false later 34 text (DoubleQuoted key at) h e
            (refl, (v, read_here (before_value (name key)) v w.0 refl h.reads), omega arith, begun_on last key.start at i j v false 34 text w.1 h.here e)))
        | inr m ↦ elim (cases_Bool (b == 39)) [
          | inl y ↦ at_this (BeforeValue key) b 39 (eqb-true b 39 y) (λ p h w. (
              let j : Inside = value_of (single_quotes (name key) []) in
              let e = not_passed 39 p ∙ ap (λ x. settle x 39) w.0 in
              quiet last at done front i j v false later 39 text (SingleQuoted key at) h e
              (refl, (v, read_here (before_value (name key)) v w.0 refl h.reads), omega arith, begun_on last key.start at i j v false 39 text w.1 h.here e)))
          | inr l ↦ elim (cases_Bool (b == 62)) [
            | inl y ↦ at_this (BeforeValue key) b 62 (eqb-true b 62 y) (λ p h w. (
                let g : at < length rest = within 62 h.here in
                let x = begun_here last key.start (before_value (name key)) v w.0 refl w.1 in
                pushed_end last at done front i v false later 62 text Between (valued key at at) [] h
                (not_passed 62 p ∙ ap (λ x. settle x 62) w.0)
                (ap (inner_text after_value false) h.here)
                (record {
                  put = (v, read_here (before_value (name key)) v w.0 refl h.reads);
                  order = omega arith;
                  inside = omega arith;
                  gap = x.0;
                  key_order = x.2;
                  kind = no_text v x.1 (ap over h.here) refl;
                })))
            | inr q ↦ λ p h w. (
                let x : Bare b = bare_byte b n in
                let g = value_begins (name key) b x.white q m l in
                let e = not_passed b p ∙ ap (settle i) x.fed ∙ ap (λ z. settle z b) w.0 ∙ g.2 in
                as_found last at done text [] (attribute_found (BeforeValue key) at b) (Unquoted key at) (next_stage (BeforeValue key) at b) (rw q refl) (rw (n, m, l, q) refl)
                (quiet last at done front i g.1 v g.0 later b text (Unquoted key at) h e
                (g.3, (v, read_here (before_value (name key)) v w.0 refl h.reads), omega arith, x.no_return, begun_on last key.start at i g.1 v g.0 b text w.1 h.here e)))
          ]
        ]
      ]
    ]

    turn_double : (key : KeyPlace) (value b : ℕ) → GoalAt (DoubleQuoted key value) b
    turn_double key value b = elim (cases_Bool (b == 34)) [
      | inl y ↦ at_this (DoubleQuoted key value) b 34 (eqb-true b 34 y) (λ p h w. (
          let g = double_ends (name key) i w.0 in
          let d = drop_tail at rest 34 text h.here in
          let l : at < length rest = d.2 in
          let o : value ≤ at = w.2 in
          let z : key.start < at = w.3.2 in
          let e = not_passed 34 p ∙ g.1 in
          pushed last at done front i after_value v false later 34 text Between (valued key value (suc at)) g.0 h e (ap (inner_text after_value false) d.0)
          (record {
            put = w.1;
            order = omega arith;
            inside = omega arith;
            gap = w.3.0;
            key_order = omega arith;
            kind = quoted (reads_on key.start at i after_value v false ((name key, g.0) ∷ []) 34 text (omega arith) h.here w.3.1 e);
          })
          (λ xs. (tt, blank_none (suc at)))))
      | inr n ↦ λ p h w. (
          let g = value_more double (name key) i (feed b) (feed_not b 34 n refl) w.0 in
          let o : value ≤ at = w.2 in
          let e = not_passed b p ∙ g.2 in
          as_found last at done text [] (attribute_found (DoubleQuoted key value) at b) (DoubleQuoted key value) (next_stage (DoubleQuoted key value) at b) (rw n refl) (rw n refl)
          (quiet last at done front i g.1 v g.0 later b text (DoubleQuoted key value) h e (g.3, w.1, omega arith, begun_on last key.start at i g.1 v g.0 b text w.3 h.here e)))
    ]

    turn_single : (key : KeyPlace) (value b : ℕ) → GoalAt (SingleQuoted key value) b
    turn_single key value b = elim (cases_Bool (b == 39)) [
      | inl y ↦ at_this (SingleQuoted key value) b 39 (eqb-true b 39 y) (λ p h w. (
          let g = single_ends (name key) i w.0 in
          let d = drop_tail at rest 39 text h.here in
          let l : at < length rest = d.2 in
          let o : value ≤ at = w.2 in
          let z : key.start < at = w.3.2 in
          let e = not_passed 39 p ∙ g.1 in
          pushed last at done front i after_value v false later 39 text Between (valued key value (suc at)) g.0 h e (ap (inner_text after_value false) d.0)
          (record {
            put = w.1;
            order = omega arith;
            inside = omega arith;
            gap = w.3.0;
            key_order = omega arith;
            kind = quoted (reads_on key.start at i after_value v false ((name key, g.0) ∷ []) 39 text (omega arith) h.here w.3.1 e);
          })
          (λ xs. (tt, blank_none (suc at)))))
      | inr n ↦ λ p h w. (
          let g = value_more single (name key) i (feed b) (feed_not b 39 n refl) w.0 in
          let o : value ≤ at = w.2 in
          let e = not_passed b p ∙ g.2 in
          as_found last at done text [] (attribute_found (SingleQuoted key value) at b) (SingleQuoted key value) (next_stage (SingleQuoted key value) at b) (rw n refl) (rw n refl)
          (quiet last at done front i g.1 v g.0 later b text (SingleQuoted key value) h e (g.3, w.1, omega arith, begun_on last key.start at i g.1 v g.0 b text w.3 h.here e)))
    ]

    bare_whole : (key : KeyPlace) (value b : ℕ) → drop at rest ≡ b ∷ text → opens (b ∷ text) ≡ true → Sim last at (Unquoted key value) front i v (b ∷ text) → Whole last (valued key value at) (bare_value i) front
    bare_whole key value b d f w =
        let l : at < length rest = within b d in
        let o : value ≤ at = w.2 in
        let x = begun_here last key.start i false refl w.3 w.4 in
        record {
          put = w.1;
          order = o;
          inside = omega arith;
          gap = x.0;
          key_order = x.2;
          kind = unquoted i x.1 w.0 (ap opens d ∙ f) refl;
        }

    turn_bare : (key : KeyPlace) (value b : ℕ) → GoalAt (Unquoted key value) b
    turn_bare key value b = elim (cases_Bool (is_space b)) [
      | inl y ↦ λ p h w.
          as_found last at done text (valued key value at ∷ []) (attribute_found (Unquoted key value) at b) Between (next_stage (Unquoted key value) at b) (rw y refl) (rw y refl)
          (pushed last at done front i before_key v false later b text Between (valued key value at) (bare_value i) h
          (not_passed b p ∙ bare_spaced (name key) i w.0 (feed b) y)
          (ap (inner_text after_value false) h.here ∙ one_stays b false before_key text (between_space after_value tt (feed b) y))
          (bare_whole key value b h.here (ap (λ (c : Bool). c || (b == 62)) y) w) (λ xs. (tt, blank_on at at b text (blank_none at) h.here (space_blank b y))))
      | inr n ↦ elim (cases_Bool (b == 62)) [
        | inl y ↦ at_this (Unquoted key value) b 62 (eqb-true b 62 y) (λ p h w.
            pushed_end last at done front i v false later 62 text Between (valued key value at) (bare_value i) h
            (not_passed 62 p ∙ bare_greater (name key) i w.0) (ap (inner_text after_value false) h.here) (bare_whole key value 62 h.here refl w))
        | inr m ↦ λ p h w. (
            let x : Bare b = bare_byte b n in
            let g = value_more bare (name key) i (feed b) (n, feed_not b 62 m refl) w.0 in
            let o : value ≤ at = w.2 in
            let e = not_passed b p ∙ g.2 in
            as_found last at done text [] (attribute_found (Unquoted key value) at b) (Unquoted key value) (next_stage (Unquoted key value) at b) (rw (n, m) refl) (rw (n, m) refl)
            (quiet last at done front i g.1 v g.0 later b text (Unquoted key value) h e (g.3, w.1, omega arith, x.no_return, begun_on last key.start at i g.1 v g.0 b text w.4 h.here e)))
      ]
    ]

    -- a line feed after a return is passed over

    turn_passed : (s : Stage) → v ≡ true → Base at done front i v later (10 ∷ text) → Sim last at s front i v (10 ∷ text) → Turned last at done text (attribute_found s at 10) (next_stage s at 10)
    turn_passed s e h w = by_stage s (ap (λ (c : Bool). byte_inner (c && true) i 10) e) w
      where
        by_stage : (s : Stage) → byte_inner (v && (10 == 10)) i 10 ≡ stays false i [] → Sim last at s front i v (10 ∷ text) → Turned last at done text (attribute_found s at 10) (next_stage s at 10)
        by_stage Between k w = quiet last at done front i i v false later 10 text Between h k (w.0, blank_on last at 10 text w.1 h.here refl)
        by_stage (Key start) k w = absurd (true≢false (sym e ∙ w.1))
        by_stage (AfterKey key) k w =
            let o : key.end ≤ at = w.3 in
            quiet last at done front i i v false later 10 text (AfterKey key) h k
            (w.0, w.1, w.2 ∙ one_passed v text e, omega arith, w.4, w.5, blank_on key.end at 10 text w.6 h.here refl, begun_on last key.start at i i v false 10 text w.7 h.here k)
        by_stage (BeforeValue key) k w = quiet last at done front i i v false later 10 text (BeforeValue key) h k (w.0, begun_on last key.start at i i v false 10 text w.1 h.here k)
        by_stage (DoubleQuoted key value) k w =
            let o : value ≤ at = w.2 in
            quiet last at done front i i v false later 10 text (DoubleQuoted key value) h k (w.0, w.1, omega arith, begun_on last key.start at i i v false 10 text w.3 h.here k)
        by_stage (SingleQuoted key value) k w =
            let o : value ≤ at = w.2 in
            quiet last at done front i i v false later 10 text (SingleQuoted key value) h k (w.0, w.1, omega arith, begun_on last key.start at i i v false 10 text w.3 h.here k)
        by_stage (Unquoted key value) k w = absurd (true≢false (sym e ∙ w.3))

    turn_at : (s : Stage) (b : ℕ) → GoalAt s b
    turn_at Between b = turn_between b
    turn_at (Key start) b = turn_key start b
    turn_at (AfterKey key) b = turn_after key b
    turn_at (BeforeValue key) b = turn_before key b
    turn_at (DoubleQuoted key value) b = turn_double key value b
    turn_at (SingleQuoted key value) b = turn_single key value b
    turn_at (Unquoted key value) b = turn_bare key value b

    turn : (s : Stage) (b : ℕ) → Base at done front i v later (b ∷ text) → Sim last at s front i v (b ∷ text) → Turned last at done text (attribute_found s at b) (next_stage s at b)
    turn s b h w = elim (cases_Bool (v && (b == 10))) [
      | inl y ↦ (
          let p = and_parts v (b == 10) y in
          subst (λ c. Base at done front i v later (c ∷ text) → Sim last at s front i v (c ∷ text) → Turned last at done text (attribute_found s at c) (next_stage s at c)) (sym (eqb-true b 10 p.1))
          (turn_passed s p.0) h w)
      | inr n ↦ turn_at s b n h w
    ]

  -- all of them

  both : (ps qs : List Place) (last : ℕ) (done : List Place) → AreAttributes last done ps → AreAttributes (last_of last ps) (done ++ ps) qs → AreAttributes last done (ps ++ qs)
  both [] qs last done h k = subst (λ xs. AreAttributes last xs qs) (append-nil done) k
  both (p ∷ ps) qs last done h k = (h.0, both ps qs p.end (done ++ p ∷ []) h.1 (subst (λ xs. AreAttributes (last_of p.end ps) xs qs) (sym (append_assoc done (p ∷ []) ps)) k))

  record All (last : ℕ) (done ps : List Place) : Type 0 where
    pub are : AreAttributes last done ps
    pub keys : keys_of more ≡ map (key_at rest) (done ++ ps)

  all : (text : List ℕ) (last at : ℕ) (s : Stage) (done : List Place) → Inv last at s done text → All last done (places_from s at text)
  all [] last at s done h = absurd (never h.i h.v h.later (h.base).left)
    where
      never : (i : Inside) (v : Bool) (later : List HtmlAttribute) → still i v [] ≡ ended closes later returned [] → ⊥
      never i v later e = cc
  all (b ∷ text) last at s done h =
      let u = turn last at done h.front h.i h.v h.later text s b h.base h.sim in
      let ps : List Place = attribute_found s at b in
      let r : Stage = next_stage s at b in
      elim u.next [
        | inl n ↦ (
            let k = all text (last_of last ps) (suc at) r (done ++ ps) n in
            record {
              are = both ps (places_from r (suc at) text) last done u.found k.are;
              keys = k.keys ∙ ap (map (key_at rest)) (append_assoc done ps (places_from r (suc at) text));
            })
        | inr o ↦ (
            let none : places_from r (suc at) text ≡ [] = ap (places_from r (suc at)) o.none in
            record {
              are = subst (AreAttributes last done) (sym (ap (λ qs. ps ++ qs) none ∙ append-nil ps)) u.found;
              keys = o.keys ∙ ap (λ qs. map (key_at rest) (done ++ qs)) (sym (ap (λ qs. ps ++ qs) none ∙ append-nil ps));
            })
      ]

  -- so are those of the whole
  pub found : inner_text after_value false rest ≡ ended closes more returned [] → AreAttributes 0 [] (places_of rest) × (keys_of more ≡ map (key_at rest) (places_of rest))
  found h =
      let k = all rest 0 0 Between [] (record {
        front = [];
        i = after_value;
        v = false;
        later = more;
        base = record { here = refl; reads = (refl, refl); left = h; all = refl; keys = refl };
        sim = (tt, blank_none 0);
      }) in
      (k.are, k.keys)
