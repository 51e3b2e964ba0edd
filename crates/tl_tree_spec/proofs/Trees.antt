-- The tokens of trees that stay make the builder add these trees, and nothing else.
use Rattle.std.proofs.Common.{◌≡◌, ℕ, suc, ◌≤◌, Bool, true, false, not, ◌&&◌, List, [], ◌∷◌, ◌++◌, map, Option, Some, option_map, codes, refl, ap, sym, ◌∙◌, inl, inr, ◌⊎◌, append_assoc, append-nil, true≢false, arith, if◌then◌else◌}
use Rattle.std.specs.List.{list_all}
use Rattle.std.proofs.lemmas.Bool.{and_parts, cases_Bool, not-true}
use Rattle.tl_spec.specs.Lex.ByteClass.{is_void}
use Rattle.tl_spec.specs.Tree.Forest.{comment, none, tag, text}
use Rattle.tl_html_spec.specs.HtmlTokenizer.{Character, EndTag, HtmlToken}
use Rattle.tl_tree_spec.specs.HtmlForest.{HtmlForest, HtmlTag, html_tokens_of, is_normal, normal_form}
use Rattle.tl_tree_spec.specs.Groups.{Group, a_caption, a_cell, a_column, a_column_group, a_format, a_mark, a_nobr, a_row, a_table, a_table_body, an_anchor, group}
use Rattle.tl_tree_spec.specs.Builder.{Builder, Element, Entry, Frame, Mode, Nodes, Reading, Stack, and_element, elements, is_flow, mode_of, names, no_nodes}
use Rattle.tl_tree_spec.specs.HtmlTreeBuilder.{adoption, body_end, end_tag, fragment, html_trees, html_trees_where, html_trees_without_search, run, standard, start_tag, trees_of}
use Rattle.tl_tree_spec.specs.Stays.{begins_line, is_alone, is_mark, is_mark_group, is_none, is_preformatted, may_be_read, may_stand, stands, stands_in_flow, stay}
use Rattle.tl_tree_spec.specs.Places.{entries_after}
use Rattle.tl_tree_spec.proofs.Active.{Ordered, Ordered-up, Sound, is_active, kept, marked, over, skipped, with_room-Sound}
use Rattle.tl_tree_spec.proofs.Starts.{start-alone, start-opens}
use Rattle.tl_tree_spec.proofs.Ends.{active-closes, body-closes, entries_left, inside, is_plain, marked-Sound, mode-plain, outside, plain-Sound, plain-end, table-closes}
use Rattle.tl_tree_spec.proofs.Texts.{IsPlain, builder, characters-run, grown, loud-run, normal, trees_grown, with_characters, with_nodes}

-- from a stack, with entries and a number, these trees are added to the current node
pub record Ran (reading : Reading) (s : Stack) (entries : List Entry) (k : ℕ) (f : HtmlForest) : Type 0 where
  pub left : List Entry
  pub next : ℕ
  pub later : k ≤ next
  pub sound : Sound left (elements s)
  pub runs : (ks : List HtmlToken) → run (Some (builder reading s entries k (mode_of (names s)))) (html_tokens_of f ++ ks)
      ≡ run (Some (builder reading (with_nodes s (grown s.current.children f)) left next (mode_of (names s)))) ks

active-end : (g : Group) → is_active g ≡ true → (b : Builder) (n : List ℕ) → body_end b g n ≡ adoption b n
active-end an_anchor v b n = refl
active-end a_format v b n = refl
active-end a_nobr v b n = refl
active-end _ v b n = absurd (true≢false (sym v))

-- groups that are none of tables, of elements that may stand, mark nothing
no_mark : (g : Group) (ns : List (List ℕ)) (n : List ℕ) → stands_in_flow g ns n ≡ true → is_mark_group g ≡ false
no_mark a_mark ns n h = absurd (true≢false (sym h))
no_mark a_caption ns n h = absurd (true≢false (sym h))
no_mark a_cell ns n h = absurd (true≢false (sym h))
no_mark _ ns n h = refl

-- what may stand of a group that is none of tables stands in the flow
in_flow : (g : Group) (ns : List (List ℕ)) (n : List ℕ) → is_plain g ≡ true → stands g ns n ≡ true → (is_flow (mode_of ns) ≡ true) × (stands_in_flow g ns n ≡ true)
in_flow a_table ns n pl h = absurd (true≢false (sym pl))
in_flow a_caption ns n pl h = absurd (true≢false (sym pl))
in_flow a_column_group ns n pl h = absurd (true≢false (sym pl))
in_flow a_column ns n pl h = absurd (true≢false (sym pl))
in_flow a_table_body ns n pl h = absurd (true≢false (sym pl))
in_flow a_row ns n pl h = absurd (true≢false (sym pl))
in_flow a_cell ns n pl h = absurd (true≢false (sym pl))
in_flow g ns n pl h = and_parts (is_flow (mode_of ns)) (stands_in_flow g ns n) h

module _ (reading : Reading) where
  -- where the end tag is read of the current node
  record Ended (e : Element) (nodes : Nodes) (s : Stack) (entries : List Entry) (k : ℕ) : Type 0 where
    left : List Entry
    sound : Sound left (elements s)
    gives : end_tag (mode_of (e.own.name ∷ names s)) (inside reading (record { element = e; children = nodes }) s.current s.others entries k (mode_of (e.own.name ∷ names s))) (group e.own.name) e.own.name
        ≡ Some (outside reading (record { element = e; children = nodes }) s.current s.others left k (mode_of (names s)))

  -- of a group that is none of tables
  plain-ended : (e : Element) (nodes : Nodes) (s : Stack) (entries : List Entry) (k : ℕ) → Ordered e.number (elements s) → Sound entries (e ∷ elements s) →
      stands (group e.own.name) (names s) e.own.name ≡ true → is_alone (group e.own.name) ≡ false → is_plain (group e.own.name) ≡ true → Ended e nodes s entries k
  plain-ended e nodes s entries k o sound h a pl =
      let f : Frame = record { element = e; children = nodes } in
      let flow = in_flow (group e.own.name) (names s) e.own.name pl h in
      let m : is_mark e.own.name ≡ false = no_mark (group e.own.name) (names s) e.own.name flow.1 in
      let from : (left : List Entry) → body_end (inside reading f s.current s.others entries k (mode_of (names s))) (group e.own.name) e.own.name ≡ Some (outside reading f s.current s.others left k (mode_of (names s))) →
      end_tag (mode_of (e.own.name ∷ names s)) (inside reading f s.current s.others entries k (mode_of (e.own.name ∷ names s))) (group e.own.name) e.own.name ≡ Some (outside reading f s.current s.others left k (mode_of (names s))) =
      λ left gives.
      ap (λ (x : Mode). end_tag x (inside reading f s.current s.others entries k x) (group e.own.name) e.own.name) (mode-plain (group e.own.name) (mode_of (names s)) pl)
      ∙ plain-end (mode_of (names s)) (inside reading f s.current s.others entries k (mode_of (names s))) e.own.name (group e.own.name) flow.0 pl
      ∙ gives in
      elim (cases_Bool (is_active (group e.own.name))) [
        | inl v ↦
            let c = active-closes reading nodes s.current s.others k (mode_of (names s)) o m sound in
            record {
              left = c.left;
              sound = c.sound;
              gives = from c.left (active-end (group e.own.name) v (inside reading f s.current s.others entries k (mode_of (names s))) e.own.name ∙ c.gives);
            }
        | inr v ↦
            record {
              left = entries;
              sound = plain-Sound m v sound;
              gives = from entries (body-closes reading f s.current s.others entries k (mode_of (names s)) (group e.own.name) refl (names s) flow.1 a v pl);
            }
      ]

-- of a table, or a part of one
table-Sound : (g : Group) (entries : List Entry) (e : Element) (es : List Element) → group e.own.name ≡ g → is_plain g ≡ false → Sound entries (e ∷ es) → Sound (entries_left g entries) es
table-Sound a_caption entries e es h pl s = marked-Sound (ap is_mark_group h) s
table-Sound a_cell entries e es h pl s = marked-Sound (ap is_mark_group h) s
table-Sound a_table entries e es h pl s = plain-Sound (ap is_mark_group h) (ap is_active h) s
table-Sound a_column_group entries e es h pl s = plain-Sound (ap is_mark_group h) (ap is_active h) s
table-Sound a_column entries e es h pl s = plain-Sound (ap is_mark_group h) (ap is_active h) s
table-Sound a_table_body entries e es h pl s = plain-Sound (ap is_mark_group h) (ap is_active h) s
table-Sound a_row entries e es h pl s = plain-Sound (ap is_mark_group h) (ap is_active h) s
table-Sound _ entries e es h pl s = absurd (true≢false pl)

module _ (reading : Reading) where
  ended : (e : Element) (nodes : Nodes) (s : Stack) (entries : List Entry) (k : ℕ) → Ordered e.number (elements s) → Sound entries (e ∷ elements s) →
      stands (group e.own.name) (names s) e.own.name ≡ true → is_alone (group e.own.name) ≡ false → Ended reading e nodes s entries k
  ended e nodes s entries k o sound h a =
      elim (cases_Bool (is_plain (group e.own.name))) [
        | inl pl ↦ plain-ended reading e nodes s entries k o sound h a pl
        | inr pl ↦
            record {
              left = entries_left (group e.own.name) entries;
              sound = table-Sound (group e.own.name) entries e (elements s) refl pl sound;
              gives = table-closes reading (record { element = e; children = nodes }) s.current s.others entries k (group e.own.name) refl pl a h;
            }
      ]

-- where the start tag was read of an element that is opened
pub entered : (g : Group) (e : Element) (entries : List Entry) (es : List Element) → group e.own.name ≡ g → Sound entries es → Sound (entries_after g e entries) (e ∷ es)
entered an_anchor e entries es h s = kept (ap is_mark_group h) (ap is_active h) (with_room-Sound entries es e.own s)
entered a_format e entries es h s = kept (ap is_mark_group h) (ap is_active h) (with_room-Sound entries es e.own s)
entered a_nobr e entries es h s = kept (ap is_mark_group h) (ap is_active h) (with_room-Sound entries es e.own s)
entered a_mark e entries es h s = marked (ap is_mark_group h) s
entered a_caption e entries es h s = marked (ap is_mark_group h) s
entered a_cell e entries es h s = marked (ap is_mark_group h) s
entered _ e entries es h s = skipped (ap is_mark_group h) s

abbrev within_tag : Stack → Element → Stack
within_tag s e = record { current = record { element = e; children = no_nodes }; others = s.current ∷ s.others }

module _ (reading : Reading) where
  -- a line feed right after `pre` is none of these
  quiet : (x : Bool) (f : HtmlForest) (s : Stack) (entries : List Entry) (k : ℕ) (m : Mode) (n : List ℕ) (r : List HtmlToken) → (x && begins_line f) ≡ false →
      run (Some (record { stack = s; active = entries; next = k; skips = if x then true else false; mode = m; reading = reading })) (html_tokens_of f ++ (EndTag n ∷ r))
      ≡ run (Some (builder reading s entries k m)) (html_tokens_of f ++ (EndTag n ∷ r))
  quiet true f s entries k m n r h = loud-run reading f s entries k m n r h
  quiet false f s entries k m n r h = refl

abbrev with_tag : Stack → HtmlTag → Nodes → Stack
with_tag s own inner = with_nodes s (and_element s.current.children own inner)

module _ (reading : Reading) where
  void-ran : (own : HtmlTag) (children more : HtmlForest) (s : Stack) (entries : List Entry) (k : ℕ) → is_void own.name ≡ true → Sound entries (elements s) →
      stands (group own.name) (names s) own.name ≡ true → is_alone (group own.name) ≡ true → is_none children ≡ true →
      Ran reading (with_tag s own no_nodes) entries (suc k) more → Ran reading s entries k (tag own children more)
  void-ran own none more s entries k v sound h a e rest =
      let b : Builder = builder reading s entries k (mode_of (names s)) in
      record {
        left = rest.left;
        next = rest.next;
        later = omega (arith, rest.later);
        sound = rest.sound;
        runs = λ ks.
            ap (λ (x : Bool). run (start_tag (mode_of (names s)) b (group own.name) own) ((if x then html_tokens_of more else [] ++ (EndTag own.name ∷ html_tokens_of more)) ++ ks)) v
            ∙ ap (λ (o : Option Builder). run o (html_tokens_of more ++ ks)) (start-alone b own (group own.name) refl sound h a)
            ∙ rest.runs ks;
      }
  void-ran own (text bytes f) more s entries k v sound h a e rest = absurd (true≢false (sym e))
  void-ran own (comment bytes f) more s entries k v sound h a e rest = absurd (true≢false (sym e))
  void-ran own (tag t f g) more s entries k v sound h a e rest = absurd (true≢false (sym e))

abbrev first_entries : Stack → List Entry → ℕ → HtmlTag → List Entry
first_entries s entries k own = entries_after (group own.name) (record { number = k; own = own }) entries

abbrev first_element : ℕ → HtmlTag → Element
first_element k own = record { number = k; own = own }

module _ (reading : Reading) where
  element-ran : (own : HtmlTag) (children more : HtmlForest) (s : Stack) (entries : List Entry) (k : ℕ) → is_void own.name ≡ false → Sound entries (elements s) →
      stands (group own.name) (names s) own.name ≡ true → is_alone (group own.name) ≡ false → (is_preformatted (group own.name) && begins_line children) ≡ false →
      (inner : Ran reading (within_tag s (first_element k own)) (first_entries s entries k own) (suc k) children) →
      (end : Ended reading (first_element k own) (grown no_nodes children) s inner.left inner.next) →
      Ran reading (with_tag s own (grown no_nodes children)) end.left inner.next more → Ran reading s entries k (tag own children more)
  element-ran own children more s entries k v sound h a l inner end rest =
      let b : Builder = builder reading s entries k (mode_of (names s)) in
      record {
        left = rest.left;
        next = rest.next;
        later = omega (arith, inner.later, rest.later);
        sound = rest.sound;
        runs = λ ks.
            ap (λ (x : Bool). run (start_tag (mode_of (names s)) b (group own.name) own) ((if x then html_tokens_of more else html_tokens_of children ++ (EndTag own.name ∷ html_tokens_of more)) ++ ks)) v
            ∙ ap (run (start_tag (mode_of (names s)) b (group own.name) own)) (append_assoc (html_tokens_of children) (EndTag own.name ∷ html_tokens_of more) ks)
            ∙ ap (λ (o : Option Builder). run o (html_tokens_of children ++ (EndTag own.name ∷ (html_tokens_of more ++ ks)))) (start-opens b own (group own.name) refl sound h a)
            ∙ quiet reading (is_preformatted (group own.name)) children (within_tag s (first_element k own)) (first_entries s entries k own) (suc k) (mode_of (own.name ∷ names s)) own.name (html_tokens_of more ++ ks) l
            ∙ inner.runs (EndTag own.name ∷ (html_tokens_of more ++ ks))
            ∙ ap (λ (o : Option Builder). run o (html_tokens_of more ++ ks)) end.gives
            ∙ rest.runs ks;
      }

-- the test that a tag passes
pub tag_parts : (v : Bool) (x y : Bool) → (if v then x else y) ≡ true → ((v ≡ true) × (x ≡ true)) ⊎ ((v ≡ false) × (y ≡ true))
tag_parts true x y h = inl (refl, h)
tag_parts false x y h = inr (refl, h)

module _ (reading : Reading) where
  pub ran : (f : HtmlForest) (s : Stack) (entries : List Entry) (k : ℕ) → Ordered k (elements s) → Sound entries (elements s) → stay (names s) f ≡ true → Ran reading s entries k f
  ran none s entries k o sound h = record { left = entries; next = k; later = omega arith; sound = sound; runs = λ ks. refl }
  ran (text bytes more) s entries k o sound h =
      let here = and_parts (list_all (may_be_read (is_flow (mode_of (names s)))) bytes) (stay (names s) more) h in
      let rest = ran more (with_nodes s (with_characters s.current.children bytes)) entries k o sound here.1 in
      record {
        left = rest.left;
        next = rest.next;
        later = rest.later;
        sound = rest.sound;
        runs = λ ks.
            ap (run (Some (builder reading s entries k (mode_of (names s))))) (append_assoc (map Character bytes) (html_tokens_of more) ks)
            ∙ characters-run reading bytes s entries k (mode_of (names s)) (html_tokens_of more ++ ks) sound here.0
            ∙ rest.runs ks;
      }
  ran (comment bytes more) s entries k o sound h = absurd (true≢false (sym h))
  ran (tag own children more) s entries k o sound h =
      let as_void : Bool = is_alone (group own.name) && is_none children in
      let opens : Bool = not (is_alone (group own.name)) && not (is_preformatted (group own.name) && begins_line children) in
      let below : Bool = stay (own.name ∷ names s) children in
      let all = and_parts (may_stand (names s) own.name && (if is_void own.name then as_void else opens && below)) (stay (names s) more) h in
      let here = and_parts (may_stand (names s) own.name) (if is_void own.name then as_void else opens && below) all.0 in
      elim (tag_parts (is_void own.name) as_void (opens && below) here.1) [
        | inl y ↦
            let parts = and_parts (is_alone (group own.name)) (is_none children) y.1 in
            void-ran reading own children more s entries k y.0 sound here.0 parts.0 parts.1
            (ran more (with_tag s own no_nodes) entries (suc k) (Ordered-up k (suc k) (elements s) (omega arith) o) sound all.1)
        | inr y ↦
            let parts = and_parts opens below y.1 in
            let tests = and_parts (not (is_alone (group own.name))) (not (is_preformatted (group own.name) && begins_line children)) parts.0 in
            let e : Element = first_element k own in
            let inner : Ran reading (within_tag s e) (first_entries s entries k own) (suc k) children =
            ran children (within_tag s e) (first_entries s entries k own) (suc k) (omega arith, o)
            (entered (group own.name) e entries (elements s) refl sound) parts.1 in
            let end : Ended reading e (grown no_nodes children) s inner.left inner.next =
            ended reading e (grown no_nodes children) s inner.left inner.next o inner.sound here.0 (not-true _ tests.0) in
            element-ran reading own children more s entries k y.0 sound here.0 (not-true _ tests.0) (not-true _ tests.1) inner end
            (ran more (with_tag s own (grown no_nodes children)) end.left inner.next
            (Ordered-up k inner.next (elements s) (omega (arith, inner.later)) o) end.sound all.1)
      ]

pub stay-IsPlain : (f : HtmlForest) (ns : List (List ℕ)) → stay ns f ≡ true → IsPlain f
stay-IsPlain none ns h = tt
stay-IsPlain (text bytes more) ns h = stay-IsPlain more ns (and_parts (list_all (may_be_read (is_flow (mode_of ns))) bytes) (stay ns more) h).1
stay-IsPlain (comment bytes more) ns h = absurd (true≢false (sym h))
stay-IsPlain (tag own children more) ns h =
    let as_void : Bool = is_alone (group own.name) && is_none children in
    let opens : Bool = not (is_alone (group own.name)) && not (is_preformatted (group own.name) && begins_line children) in
    let below : Bool = stay (own.name ∷ ns) children in
    let all = and_parts (may_stand ns own.name && (if is_void own.name then as_void else opens && below)) (stay ns more) h in
    let here = and_parts (may_stand ns own.name) (if is_void own.name then as_void else opens && below) all.0 in
    let rest = stay-IsPlain more ns all.1 in
    elim (tag_parts (is_void own.name) as_void (opens && below) here.1) [
      | inl y ↦ (empty children (and_parts (is_alone (group own.name)) (is_none children) y.1).1, rest)
      | inr y ↦ (stay-IsPlain children (own.name ∷ ns) (and_parts opens below y.1).1, rest)
    ]
  where
    empty : (f : HtmlForest) → is_none f ≡ true → IsPlain f
    empty none e = tt
    empty (text bytes f) e = absurd (true≢false (sym e))
    empty (comment bytes f) e = absurd (true≢false (sym e))
    empty (tag t f g) e = absurd (true≢false (sym e))

-- the theorem: the tree builder gives trees that stay back
pub stays_where : (reading : Reading) (f : HtmlForest) → stay (codes "html" ∷ []) f ≡ true → html_trees_where reading (html_tokens_of f) ≡ Some (normal_form f)
stays_where reading f h =
    let r : Ran reading (fragment reading).stack [] 1 f = ran reading f (fragment reading).stack [] 1 (omega arith, tt) over h in
    ap (λ (ks : List HtmlToken). html_trees_where reading ks) (sym (append-nil (html_tokens_of f)))
    ∙ ap (option_map trees_of) (r.runs [])
    ∙ ap Some (trees_grown f (stay-IsPlain f (codes "html" ∷ []) h))

pub stays : (f : HtmlForest) → stay (codes "html" ∷ []) f ≡ true → html_trees (html_tokens_of f) ≡ Some (normal_form f)
stays f h = stays_where standard f h

pub stays_exactly : (f : HtmlForest) → stay (codes "html" ∷ []) f ≡ true → is_normal f ≡ true → html_trees (html_tokens_of f) ≡ Some f
stays_exactly f h n = stays f h ∙ ap Some (normal f n)

-- whether `search` is a special element makes no difference
pub stays_without_search : (f : HtmlForest) → stay (codes "html" ∷ []) f ≡ true → html_trees_without_search (html_tokens_of f) ≡ html_trees (html_tokens_of f)
stays_without_search f h = stays_where (record standard { counts_search = false }) f h ∙ sym (stays f h)
