-- The tokens of a print put its trees in at a place of a page, and leave all else as it is.
use Rattle.std.proofs.Common.{Bool, List, Option, Some, [], ap, ap₂, arith, codes, false, if◌then◌else◌, inl, inr, map, not, refl, subst, suc, sym, append_assoc, true, true≢false, ℕ, ◌&&◌, ◌++◌, ◌==◌, ◌||◌, ◌∙◌, ◌∷◌, ◌≡◌, ◌≤◌}
use Rattle.std.specs.Char.{is_ascii_whitespace}
use Rattle.std.specs.List.{list_all, list_any}
use Rattle.std.proofs.lemmas.Bool.{and_parts, cases_Bool, false_from_ne_true, not-true, or_from}
use Rattle.tl_html_spec.specs.Balanced.{is_one_of, words}
use Rattle.tl_html_spec.specs.HtmlTokenizer.{Character, CommentToken, EndTag, HtmlToken, StartTag, after_start, data_state}
use Rattle.tl_names.specs.Elements.{is_among, rawtext_names, rcdata_names}
use Rattle.std.specs.Str.{bytes_eq}
use Rattle.std.proofs.lemmas.Slice.Eq.{bytes_eq-Decides}
use Rattle.tl_dom_spec.specs.HtmlTree.{standard}
use Rattle.tl_dom_spec.proofs.PlainNames.{plain_after}
use Rattle.tl_spec.specs.Lex.ByteClass.{is_void}
use Rattle.tl_spec.specs.Tree.Forest.{comment, none, tag, text}
use Rattle.tl_tree_spec.specs.Builder as P
use Rattle.tl_tree_spec.specs.Groups as G
use Rattle.tl_tree_spec.specs.HtmlForest.{HtmlForest, HtmlTag, html_tokens_of}
use Rattle.tl_tree_spec.specs.Stays as Y
use Rattle.tl_tree_spec.proofs.Ends.{is_plain}
use Rattle.tl_tree_spec.proofs.Texts as X
use Rattle.tl_tree_spec.proofs.Trees.{tag_parts}
use Rattle.tl_dom_spec.specs.Builder as B
use Rattle.tl_dom_spec.specs.Dispatcher as M
use Rattle.tl_html_spec.specs.Driven.{GoesByName, SetsByName, plain}
use Rattle.tl_dom_spec.specs.Driver.{builder, token_of}
use Rattle.tl_dom_spec.specs.Formatting as F
use Rattle.tl_dom_spec.specs.Path as W
use Rattle.tl_dom_spec.specs.Tables as S
use Rattle.tl_dom_spec.specs.Tags as T
use Rattle.tl_dom_spec.specs.Tags.{Tag, html_tag}
use Rattle.tl_dom_spec.proofs.PartNames.{facts, has_twin, twin}
use Rattle.tl_dom_spec.proofs.PartPaths.{tag_of, tag_with}
use Rattle.tl_dom_spec.proofs.PartSources.{bare_nodes}
use Rattle.tl_dom_spec.proofs.PartTests.{each_name}
use Rattle.tl_tree_safe.proofs.PageTags.{Inner, mode_at, names_of}
use Rattle.tl_tree_safe.proofs.PageStates.{Active, Counts, Ordered, Ordered-up, by-mode, entered, entries_after, grown, state, ticked, token-loud}
use Rattle.tl_tree_safe.proofs.PageStarts.{Around, Seat, Stands, between, flow-mode, flowing, in_columns, is_between, mode_in, ok_after, opens, stands-alone, stands-grown, still_here}
use Rattle.tl_tree_safe.proofs.PageEnds.{ended, in_flow, mode-plain, with_element}
use Rattle.tl_tree_safe.proofs.PageTexts.{IsHeld, Same, Spoke, between-text, column-text, enters, flow-text, flushed, held, held-home, held-more, put_in, same-held, spoken}

abbrev pub tokens_of : HtmlForest → List B.Token
tokens_of ts = map token_of (html_tokens_of ts)

pub tokens-append : (c : B.Builder) (xs ys : List HtmlToken) → M.tokens_done c (map token_of (xs ++ ys)) ≡ M.tokens_done (M.tokens_done c (map token_of xs)) (map token_of ys)
tokens-append c [] ys = refl
tokens-append c (x ∷ xs) ys = tokens-append (M.token_done c (token_of x)) xs ys

goes-append : (c : B.Builder) (xs ys : List HtmlToken) → GoesByName builder c (map plain xs) → GoesByName builder (M.tokens_done c (map token_of xs)) (map plain ys) → GoesByName builder c (map plain (xs ++ ys))
goes-append c [] ys h k = k
goes-append c (x ∷ xs) ys h k = (h.0, h.1, goes-append (M.token_done c (token_of x)) xs ys h.2 k)

-- The state that a name sets is the data state

abbrev is_off : List ℕ → Bool
is_off n = not (has_twin (G.group n))

off-list : (ws : List (List ℕ)) (n : List ℕ) → list_all is_off ws ≡ true → has_twin (G.group n) ≡ true → list_any (bytes_eq n) ws ≡ false
off-list [] n h t = refl
off-list (w ∷ ws) n h t =
    let two = and_parts (is_off w) (list_all is_off ws) h in
    or_from (bytes_eq n w) (list_any (bytes_eq n) ws)
    (false_from_ne_true (bytes_eq n w) (λ y. true≢false (sym two.0 ∙ ap not (ap (λ x. has_twin (G.group x)) (sym ((bytes_eq-Decides n w).0 y)) ∙ t))))
    (off-list ws n two.1 t)

none_of_five : (a b c d : Bool) → a ≡ false → b ≡ false → c ≡ false → d ≡ false → not ((a || b) || ((c || d) || false)) ≡ true
none_of_five false false false false e f g h = refl
none_of_five true b c d e f g h = absurd (true≢false e)
none_of_five false true c d e f g h = absurd (true≢false f)
none_of_five false false true d e f g h = absurd (true≢false g)
none_of_five false false false true e f g h = absurd (true≢false h)

sets-data : (n : List ℕ) → has_twin (G.group n) ≡ true → after_start n ≡ data_state
sets-data n t =
    plain_after standard n
    (none_of_five (is_one_of (codes "math svg") n) (is_among rcdata_names n) (is_among rawtext_names n) (is_one_of (codes "script plaintext") n)
    (off-list (words (codes "math svg")) n refl t) (off-list rcdata_names n refl t) (off-list rawtext_names n refl t) (off-list (words (codes "script plaintext")) n refl t))

-- Names

pub stands-twin : (g : G.Group) (ns : List (List ℕ)) (n : List ℕ) → Y.stands g ns n ≡ true → has_twin g ≡ true
stands-twin G.misplaced ns n h = absurd (true≢false (sym (and_parts (P.is_flow (P.mode_of ns)) false h).1))
stands-twin G.an_option ns n h = absurd (true≢false (sym (and_parts (P.is_flow (P.mode_of ns)) false h).1))
stands-twin G.elsewhere ns n h = absurd (true≢false (sym (and_parts (P.is_flow (P.mode_of ns)) false h).1))
stands-twin _ ns n h = refl

mode-inside : (around : B.Mode) (g : G.Group) (m : P.Mode) → mode_in g (mode_at around m) ≡ mode_at around (P.mode_by g m)
mode-inside around G.a_table m = refl
mode-inside around _ m = refl

abbrev Between : List ℕ → Type 0
Between n = is_one_of (codes "table tbody tfoot thead tr") n ≡ true

text-between : (own : HtmlTag) (source : Option ℕ) → Between own.name → S.is_text_in_table (tag_with source own) ≡ true
text-between own source h = ap (λ v. v || T.is_template (tag_with source own)) h

seat-inside : (g : G.Group) (own : HtmlTag) (source : Option ℕ) (ns : List (List ℕ)) → G.group own.name ≡ g → Y.stands g ns own.name ≡ true → is_plain g ≡ true →
    Seat (P.mode_by g (P.mode_of ns)) (tag_with source own)
seat-inside g own source ns e h pl = flowing (ap P.is_flow (mode-plain g (P.mode_of ns) pl) ∙ (in_flow g ns own.name pl h).0)

seat-part : (g : G.Group) (own : HtmlTag) (source : Option ℕ) (m : P.Mode) → G.group own.name ≡ g → is_plain g ≡ false → Y.is_alone g ≡ false → Seat (P.mode_by g m) (tag_with source own)
seat-part G.a_table own source m e pl l =
    between refl (text-between own source (each_name Between own.name (words (codes "table")) (refl, tt) (sym (facts own.name).table ∙ ap G.is_table_group e)))
seat-part G.a_caption own source m e pl l = flowing refl
seat-part G.a_column_group own source m e pl l = in_columns
seat-part G.a_table_body own source m e pl l =
    between refl (text-between own source (each_name Between own.name (words (codes "tbody tfoot thead")) (refl, (refl, (refl, tt))) (sym (facts own.name).table_body ∙ ap G.is_table_body_group e)))
seat-part G.a_row own source m e pl l =
    between refl (text-between own source (each_name Between own.name (words (codes "tr")) (refl, tt) (sym (facts own.name).row ∙ ap G.is_row_group e)))
seat-part G.a_cell own source m e pl l = flowing refl
seat-part G.a_column own source m e pl l = absurd (true≢false l)
seat-part _ own source m e pl l = absurd (true≢false pl)

seat-in : (g : G.Group) (own : HtmlTag) (source : Option ℕ) (ns : List (List ℕ)) → G.group own.name ≡ g → Y.stands g ns own.name ≡ true → Y.is_alone g ≡ false →
    Seat (P.mode_by g (P.mode_of ns)) (tag_with source own)
seat-in g own source ns e h l = elim (cases_Bool (is_plain g)) [
  | inl pl ↦ seat-inside g own source ns e h pl
  | inr pl ↦ seat-part g own source (P.mode_of ns) e pl l
]

-- nothing waits in the flow
pub none-held : (m : P.Mode) (ws : List ℕ) → is_between m ≡ false → IsHeld m ws → ws ≡ []
none-held m [] n h = refl
none-held m (w ∷ ws) n h = absurd (true≢false (sym h.0 ∙ n))

flow-apart : (m : P.Mode) → P.is_flow m ≡ true → is_between m ≡ false
flow-apart P.in_table h = absurd (true≢false (sym h))
flow-apart P.in_table_body h = absurd (true≢false (sym h))
flow-apart P.in_row h = absurd (true≢false (sym h))
flow-apart _ h = refl

between-blank : (m : P.Mode) → is_between m ≡ true → P.is_flow m ≡ false
between-blank P.in_table h = refl
between-blank P.in_table_body h = refl
between-blank P.in_row h = refl
between-blank _ h = absurd (true≢false (sym h))

ok-after : (g : G.Group) (v : Bool) → v ≡ false → ok_after g v ≡ false
ok-after G.a_preformatted v h = refl
ok-after G.an_item v h = refl
ok-after G.a_description v h = refl
ok-after G.a_button v h = refl
ok-after G.a_table v h = refl
ok-after G.a_break v h = refl
ok-after G.a_void v h = refl
ok-after G.a_rule v h = refl
ok-after _ v h = h

flushed-ok : (k : Counts) (m : B.Mode) (ws : List ℕ) → k.is_frameset_ok ≡ false → (flushed k m ws).is_frameset_ok ≡ false
flushed-ok k m [] h = h
flushed-ok k m (w ∷ ws) h = h

flushed-reads : (k : Counts) (m : B.Mode) (ws : List ℕ) → (flushed k m ws).reads ≡ data_state
flushed-reads k m [] = refl
flushed-reads k m (w ∷ ws) = refl

flushed-next : (k : Counts) (m : B.Mode) (ws : List ℕ) → (flushed k m ws).next ≡ k.next
flushed-next k m [] = refl
flushed-next k m (w ∷ ws) = refl

-- a line feed right after `pre` is none of these
loud-run : (b : B.Builder) (p : W.Path) (a : List B.Entry) (m : B.Mode) (k : Counts) (ts : HtmlForest) (n : List ℕ) (r : List HtmlToken) → Y.begins_line ts ≡ false →
    M.tokens_done (state b p a m true k) (map token_of (html_tokens_of ts ++ (EndTag n ∷ r))) ≡ M.tokens_done (state b p a m false k) (map token_of (html_tokens_of ts ++ (EndTag n ∷ r)))
loud-run b p a m k none n r h = ap (λ c. M.tokens_done c (map token_of r)) (token-loud b p a m k (token_of (EndTag n)) refl)
loud-run b p a m k (text [] more) n r h = loud-run b p a m k more n r h
loud-run b p a m k (text (x ∷ xs) more) n r h =
    ap (λ c. M.tokens_done c (map token_of ((map Character xs ++ html_tokens_of more) ++ (EndTag n ∷ r)))) (token-loud b p a m k (B.a_character x) h)
loud-run b p a m k (comment bytes more) n r h = ap (λ c. M.tokens_done c (map token_of (html_tokens_of more ++ (EndTag n ∷ r)))) (token-loud b p a m k (token_of (CommentToken bytes)) refl)
loud-run b p a m k (tag own children more) n r h =
    ap (λ c. M.tokens_done c (map token_of ((if is_void own.name then html_tokens_of more else html_tokens_of children ++ (EndTag own.name ∷ html_tokens_of more)) ++ (EndTag n ∷ r))))
    (token-loud b p a m k (token_of (StartTag own.name own.attributes false)) refl)

quiet : (v : Bool) (b : B.Builder) (p : W.Path) (a : List B.Entry) (m : B.Mode) (k : Counts) (ts : HtmlForest) (n : List ℕ) (r : List HtmlToken) → (v && Y.begins_line ts) ≡ false →
    M.tokens_done (state b p a m v k) (map token_of (html_tokens_of ts ++ (EndTag n ∷ r))) ≡ M.tokens_done (state b p a m false k) (map token_of (html_tokens_of ts ++ (EndTag n ∷ r)))
quiet true b p a m k ts n r h = loud-run b p a m k ts n r h
quiet false b p a m k ts n r h = refl

loud-goes : (b : B.Builder) (p : W.Path) (a : List B.Entry) (m : B.Mode) (k : Counts) (x : HtmlToken) (xs : List HtmlToken) → M.is_line_feed (token_of x) ≡ false →
    GoesByName builder (state b p a m false k) (map plain (x ∷ xs)) → GoesByName builder (state b p a m true k) (map plain (x ∷ xs))
loud-goes b p a m k x xs l h =
    let e = sym (token-loud b p a m k (token_of x) l) in
    (h.0, subst (λ c. SetsByName builder c x) e h.1, subst (λ c. GoesByName builder c (map plain xs)) e h.2)

quiet-goes : (v : Bool) (b : B.Builder) (p : W.Path) (a : List B.Entry) (m : B.Mode) (k : Counts) (ts : HtmlForest) (n : List ℕ) → (v && Y.begins_line ts) ≡ false →
    GoesByName builder (state b p a m false k) (map plain (html_tokens_of ts ++ (EndTag n ∷ []))) → GoesByName builder (state b p a m v k) (map plain (html_tokens_of ts ++ (EndTag n ∷ [])))
quiet-goes false b p a m k ts n r h = h
quiet-goes true b p a m k none n r h = loud-goes b p a m k (EndTag n) [] refl h
quiet-goes true b p a m k (text [] more) n r h = quiet-goes true b p a m k more n r h
quiet-goes true b p a m k (text (x ∷ xs) more) n r h = loud-goes b p a m k (Character x) ((map Character xs ++ html_tokens_of more) ++ (EndTag n ∷ [])) r h
quiet-goes true b p a m k (comment bytes more) n r h = loud-goes b p a m k (CommentToken bytes) (html_tokens_of more ++ (EndTag n ∷ [])) refl h
quiet-goes true b p a m k (tag own children more) n r h =
    loud-goes b p a m k (StartTag own.name own.attributes false)
    ((if is_void own.name then html_tokens_of more else html_tokens_of children ++ (EndTag own.name ∷ html_tokens_of more)) ++ (EndTag n ∷ [])) refl h

same-element : {nodes below : W.Nodes} {own inner : P.Nodes} (t : HtmlTag) (source : Option ℕ) → Same nodes own → Same below inner →
    Same (with_element nodes (tag_with source t) below) (P.and_element own t inner)
same-element {nodes} {below} {own} {inner} t source s i = record {
  bare = ap₂ (λ x y. W.and_element x (tag_of t) y) s.bare (ap bare_nodes i.neat ∙ i.bare);
  neat = ap (λ x. W.and_element x (tag_with source t) (W.joined W.no_nodes below)) s.neat;
}

same-alone : {nodes : W.Nodes} {own : P.Nodes} (t : HtmlTag) (source : Option ℕ) → Same nodes own → Same (W.and_element nodes (tag_with source t) W.no_nodes) (P.and_element own t P.no_nodes)
same-alone {nodes} {own} t source s = record {
  bare = ap (λ x. W.and_element x (tag_of t) W.no_nodes) s.bare;
  neat = ap (λ x. W.and_element x (tag_with source t) W.no_nodes) s.neat;
}

pub same-none : Same W.no_nodes P.no_nodes
same-none = record { bare = refl; neat = refl }

module _ (b : B.Builder) (around : B.Mode) (base : List B.Entry) (outer : List Tag) (low : ℕ) (numbered : List ℕ) (all : Around b around base outer low) where
  abbrev pmode : List Inner → P.Mode
  pmode is = P.mode_of (names_of is)

  abbrev mode_of : List Inner → B.Mode
  mode_of is = mode_at around (pmode is)

  abbrev pub at : List Inner → W.Frame → W.Path → W.Nodes → List B.Entry → Counts → List ℕ → B.Builder
  at is f rest nodes a k ws = held b (grown f nodes ∷ rest) a (mode_of is) k ws

  -- from there, with nodes and white space that stand for those of the partial builder, these trees go in
  pub record Ran (is : List Inner) (f : W.Frame) (rest : W.Path) (nodes : W.Nodes) (ws : List ℕ) (own : P.Nodes) (a : List B.Entry) (k : Counts) (ts : HtmlForest) : Type 0 where
    pub to : W.Nodes
    pub waits : List ℕ
    pub left : List B.Entry
    pub counts : Counts
    pub later : k.next ≤ counts.next
    pub active : Active base left is
    pub ok : k.is_frameset_ok ≡ false → counts.is_frameset_ok ≡ false
    pub held_so : IsHeld (pmode is) waits
    pub same : (n : ℕ) → Same (put_in to waits n) (X.grown own ts)
    pub runs : M.tokens_done (at is f rest nodes a k ws) (tokens_of ts) ≡ at is f rest to left counts waits
    pub goes : GoesByName builder (at is f rest nodes a k ws) (map plain (html_tokens_of ts))

  -- after some tokens, the others
  onwards : {is : List Inner} {f : W.Frame} {rest : W.Path} {nodes mid : W.Nodes} {ws mids : List ℕ} {own grow : P.Nodes} {a e : List B.Entry} {k j : Counts} (ts more : HtmlForest) (xs : List HtmlToken) →
      html_tokens_of ts ≡ xs ++ html_tokens_of more → M.tokens_done (at is f rest nodes a k ws) (map token_of xs) ≡ at is f rest mid e j mids →
      GoesByName builder (at is f rest nodes a k ws) (map plain xs) →
      X.grown own ts ≡ X.grown grow more → k.next ≤ j.next → (k.is_frameset_ok ≡ false → j.is_frameset_ok ≡ false) →
      Ran is f rest mid mids grow e j more → Ran is f rest nodes ws own a k ts
  onwards {is} {f} {rest} {nodes} {mid} {ws} {mids} {own} {grow} {a} {e} {k} {j} ts more xs split goes by grows l o r = record {
    to = r.to;
    waits = r.waits;
    left = r.left;
    counts = r.counts;
    later = omega (arith, l, r.later);
    active = r.active;
    ok = λ h. r.ok (o h);
    held_so = r.held_so;
    same = λ n. subst (Same (put_in r.to r.waits n)) (sym grows) (r.same n);
    runs = ap (λ (ys : List HtmlToken). M.tokens_done (at is f rest nodes a k ws) (map token_of ys)) split
        ∙ tokens-append (at is f rest nodes a k ws) xs (html_tokens_of more)
        ∙ ap (λ c. M.tokens_done c (tokens_of more)) goes
        ∙ r.runs;
    goes = subst (λ (ys : List HtmlToken). GoesByName builder (at is f rest nodes a k ws) (map plain ys)) (sym split)
        (goes-append (at is f rest nodes a k ws) xs (html_tokens_of more) by
        (subst (λ c. GoesByName builder c (map plain (html_tokens_of more))) (sym goes) r.goes));
  }

  -- the element's start tag, as the builder takes it
  start_is : (own : HtmlTag) (n : ℕ) → has_twin (G.group own.name) ≡ true →
      M.numbered n (token_of (StartTag own.name own.attributes false)) ≡ B.a_start (twin (G.group own.name)) (tag_with (Some n) own) false
  start_is own n t = ap (λ g. B.a_start g (tag_with (Some n) own) false) ((facts own.name).twins t)

  end_is : (own : HtmlTag) (n : ℕ) → has_twin (G.group own.name) ≡ true → M.numbered n (token_of (EndTag own.name)) ≡ B.an_end (twin (G.group own.name)) own.name
  end_is own n t = ap (λ g. B.an_end g own.name) ((facts own.name).twins t)

  module _ (is : List Inner) (f : W.Frame) (rest : W.Path) (nodes : W.Nodes) (ws : List ℕ) (a : List B.Entry) (k : Counts)
      (stands : Stands outer numbered is f rest) (active : Active base a is) (held_so : IsHeld (pmode is) ws) (own : HtmlTag)
      (may : Y.stands (G.group own.name) (names_of is) own.name ≡ true) where
    abbrev full : W.Nodes
    full = put_in nodes ws k.marks

    abbrev flat : Counts
    flat = flushed k (mode_of is) ws

    abbrev twins : has_twin (G.group own.name) ≡ true
    twins = stands-twin (G.group own.name) (names_of is) own.name may

    abbrev source : Option ℕ
    source = Some k.marks

    abbrev start : B.Token
    start = token_of (StartTag own.name own.attributes false)

    -- its counts after an element that is put in
    abbrev counted : Counts
    counted = ticked (record flat { next = suc flat.next; is_frameset_ok = ok_after (G.group own.name) flat.is_frameset_ok }) (suc k.marks)

    void-goes : Y.is_alone (G.group own.name) ≡ true →
        M.token_done (at is f rest nodes a k ws) start ≡ at is f rest (W.and_element full (tag_with source own) W.no_nodes) a counted []
    void-goes l =
        enters b f nodes rest a (mode_of is) k (pmode is) ws start stands.html held_so (λ _. refl)
        (grown f (W.and_element full (tag_with source own) W.no_nodes) ∷ rest) a (mode_of is) false
        (record flat { next = suc flat.next; is_frameset_ok = ok_after (G.group own.name) flat.is_frameset_ok })
        (ap (λ t. M.dispatch t (state b (grown f full ∷ rest) a (mode_of is) false flat)) (start_is own k.marks twins)
        ∙ stands-alone b around base outer low numbered all is (grown f full) rest (stands-grown full stands) a active own source flat (G.group own.name) may l)

    abbrev frame : W.Frame
    frame = W.new_frame flat.next (tag_with source own) W.here

    abbrev me : Inner
    me = record { number = flat.next; source = source; own = own }

    abbrev entries : List B.Entry
    entries = entries_after (G.group own.name) flat.next (tag_with source own) a

    opens-goes : Y.is_alone (G.group own.name) ≡ false →
        M.token_done (at is f rest nodes a k ws) start
        ≡ state b (frame ∷ grown f full ∷ rest) entries (mode_of (me ∷ is)) (Y.is_preformatted (G.group own.name)) counted
    opens-goes l =
        enters b f nodes rest a (mode_of is) k (pmode is) ws start stands.html held_so (λ _. refl)
        (frame ∷ grown f full ∷ rest) entries (mode_of (me ∷ is)) (Y.is_preformatted (G.group own.name))
        (record flat { next = suc flat.next; is_frameset_ok = ok_after (G.group own.name) flat.is_frameset_ok })
        (ap (λ t. M.dispatch t (state b (grown f full ∷ rest) a (mode_of is) false flat)) (start_is own k.marks twins)
        ∙ opens b around base outer low numbered all is (grown f full) rest (stands-grown full stands) a active own source flat (G.group own.name) refl may l
        ∙ ap (λ m. B.Done (state b (frame ∷ grown f full ∷ rest) entries m (Y.is_preformatted (G.group own.name))
        (record flat { next = suc flat.next; is_frameset_ok = ok_after (G.group own.name) flat.is_frameset_ok }))) (mode-inside around (G.group own.name) (pmode is)))

    stands-in : Y.is_alone (G.group own.name) ≡ false → Stands outer numbered (me ∷ is) frame (grown f full ∷ rest)
    stands-in l = record {
      is_so = refl;
      html = refl;
      tags_are = ap (λ ts. tag_with source own ∷ ts) stands.tags_are;
      numbers_are = ap (λ ns. flat.next ∷ ns) stands.numbers_are;
      twins = (twins, stands.twins);
      head = refl;
      seat = seat-in (G.group own.name) own source (names_of is) refl may l;
    }

    -- the end tag, after what is in it
    record Closed (below : W.Nodes) (waits : List ℕ) (e : List B.Entry) (j : Counts) : Type 0 where
      left : List B.Entry
      still_active : Active base left is
      goes : M.token_done (at (me ∷ is) frame (grown f full ∷ rest) below e j waits) (token_of (EndTag own.name))
          ≡ at is f rest (with_element full (tag_with source own) (put_in below waits j.marks)) left (ticked (flushed j (mode_of (me ∷ is)) waits) (suc j.marks)) []

    closes-goes : (below : W.Nodes) (waits : List ℕ) (e : List B.Entry) (j : Counts) → Y.is_alone (G.group own.name) ≡ false → Ordered low flat.next is →
        Active base e (me ∷ is) → IsHeld (pmode (me ∷ is)) waits → Closed below waits e j
    closes-goes below waits e j l o act w =
        let inner : W.Nodes = put_in below waits j.marks in
        let to : Counts = flushed j (mode_of (me ∷ is)) waits in
        let r = ended b around base outer low numbered all is f full rest stands own source flat.next inner to e o act (G.group own.name) refl twins may l in
        record {
          left = r.left;
          still_active = r.active;
          goes = enters b frame below (grown f full ∷ rest) e (mode_of (me ∷ is)) j (pmode (me ∷ is)) waits (token_of (EndTag own.name)) refl w (λ _. refl)
              (grown f (with_element full (tag_with source own) inner) ∷ rest) r.left (mode_of is) false to
              (ap (λ t. M.dispatch t (state b (grown frame inner ∷ grown f full ∷ rest) e (mode_of (me ∷ is)) false to)) (end_is own j.marks twins)
              ∙ by-mode b (grown frame inner) (grown f full ∷ rest) e (mode_of (me ∷ is)) false to (B.an_end (twin (G.group own.name)) own.name) refl
              ∙ r.gives);
        }

  flat-later : (k : Counts) (m : B.Mode) (ws : List ℕ) → k.next ≤ suc (flushed k m ws).next
  flat-later k m ws = omega (arith, flushed-next k m ws)

  -- text, by what the current element takes
  text-ran : (bytes : List ℕ) (more : HtmlForest) (is : List Inner) (f : W.Frame) (rest : W.Path) (nodes : W.Nodes) (ws : List ℕ) (own : P.Nodes) (a : List B.Entry) (k : Counts) →
      Stands outer numbered is f rest → Active base a is → IsHeld (pmode is) ws → ((n : ℕ) → Same (put_in nodes ws n) own) →
      list_all (Y.may_be_read (P.is_flow (pmode is))) bytes ≡ true →
      ((mid : W.Nodes) (mids : List ℕ) (j : Counts) → j.next ≡ k.next → IsHeld (pmode is) mids → ((n : ℕ) → Same (put_in mid mids n) (X.with_characters own bytes)) →
      Ran is f rest mid mids (X.with_characters own bytes) a j more) →
      Ran is f rest nodes ws own a k (text bytes more)
  text-ran bytes more is f rest nodes ws own a k stands active h s read on = by_seat (pmode is) f.tag refl refl stands.seat
    where
      read-flow : P.is_flow (pmode is) ≡ true → list_all (λ x. not (x == 0)) bytes ≡ true
      read-flow e = subst (λ v. list_all (Y.may_be_read v) bytes ≡ true) e read

      read-blank : P.is_flow (pmode is) ≡ false → list_all is_ascii_whitespace bytes ≡ true
      read-blank e = subst (λ v. list_all (Y.may_be_read v) bytes ≡ true) e read

      still_ready : (m : B.Mode) (x : W.Nodes) (j : Counts) → F.reconstruct_formatting (state b (grown f x ∷ rest) a m false j) ≡ state b (grown f x ∷ rest) a m false j
      still_ready m x j = still_here b outer numbered all.fair is (grown f x) rest (stands-grown x stands) base all.none a active m j

      flat : {j : Counts} (mid : W.Nodes) → Spoke k j → M.tokens_done (at is f rest nodes a k []) (spoken bytes) ≡ at is f rest mid a j [] →
          GoesByName builder (at is f rest nodes a k []) (map plain (map Character bytes)) → Same mid (X.with_characters own bytes) →
          Ran is f rest nodes [] own a k (text bytes more)
      flat {j} mid sp goes by same =
          onwards (text bytes more) more (map Character bytes) refl goes by refl (omega (arith, sp.next)) sp.ok
          (on mid [] j sp.next tt (λ _. same))

      in_flow_case : P.is_flow (pmode is) ≡ true → ws ≡ [] → Ran is f rest nodes ws own a k (text bytes more)
      in_flow_case e z =
          let told = flow-text b f rest stands.html a bytes nodes own (mode_of is) k (flow-mode around (pmode is) all.flows e) (λ x j. still_ready (mode_of is) x j) (read-flow e)
          (subst (λ (vs : List ℕ). Same (put_in nodes vs 0) own) z (s 0)) in
          subst (λ (vs : List ℕ). Ran is f rest nodes vs own a k (text bytes more)) (sym z) (flat told.to told.spoke told.runs told.goes told.same)

      column_case : pmode is ≡ P.in_column_group → ws ≡ [] → Ran is f rest nodes ws own a k (text bytes more)
      column_case e z =
          let told = column-text b f rest stands.html a bytes nodes own k (read-blank (ap P.is_flow e))
          (subst (λ (vs : List ℕ). Same (put_in nodes vs 0) own) z (s 0)) in
          let runs = subst (λ (m : P.Mode). M.tokens_done (state b (grown f nodes ∷ rest) a (mode_at around m) false k) (spoken bytes) ≡ state b (grown f told.to ∷ rest) a (mode_at around m) false told.counts)
          (sym e) told.runs in
          let by = subst (λ (m : P.Mode). GoesByName builder (state b (grown f nodes ∷ rest) a (mode_at around m) false k) (map plain (map Character bytes))) (sym e) told.goes in
          subst (λ (vs : List ℕ). Ran is f rest nodes vs own a k (text bytes more)) (sym z) (flat told.to told.spoke runs by told.same)

      between_case : is_between (pmode is) ≡ true → S.is_text_in_table f.tag ≡ true → Ran is f rest nodes ws own a k (text bytes more)
      between_case e t =
          let blank = read-blank (between-blank (pmode is) e) in
          let w = between-text b f rest stands.html a around (pmode is) e t nodes bytes ws k blank in
          onwards (text bytes more) more (map Character bytes) refl w.runs w.goes refl (omega (arith, (w.spoke).next)) (w.spoke).ok
          (on nodes (ws ++ bytes) w.counts (w.spoke).next (held-more b f rest stands.html a around (pmode is) e t nodes ws bytes h blank) (λ n. same-held nodes n ws bytes (s n)))

      by_seat : (m : P.Mode) (t : Tag) → pmode is ≡ m → f.tag ≡ t → Seat m t → Ran is f rest nodes ws own a k (text bytes more)
      by_seat m t e g (flowing y) = in_flow_case (ap P.is_flow e ∙ y) (none-held (pmode is) ws (flow-apart (pmode is) (ap P.is_flow e ∙ y)) h)
      by_seat m t e g (between y z) = between_case (ap is_between e ∙ y) (ap S.is_text_in_table g ∙ z)
      by_seat m t e g in_columns = column_case e (none-held (pmode is) ws (ap is_between e) h)

  -- an element, of what is known of what is in it and behind it
  module _ (is : List Inner) (f : W.Frame) (rest : W.Path) (nodes : W.Nodes) (ws : List ℕ) (grow : P.Nodes) (a : List B.Entry) (k : Counts)
      (stands : Stands outer numbered is f rest) (order : Ordered low k.next is) (active : Active base a is) (held_so : IsHeld (pmode is) ws)
      (same : (n : ℕ) → Same (put_in nodes ws n) grow) (own : HtmlTag)
      (may : Y.stands (G.group own.name) (names_of is) own.name ≡ true) where
    abbrev full_here : W.Nodes
    full_here = full is f rest nodes ws a k stands active held_so own may

    abbrev counted_here : Counts
    counted_here = counted is f rest nodes ws a k stands active held_so own may

    abbrev me_now : Inner
    me_now = me is f rest nodes ws a k stands active held_so own may

    abbrev frame_now : W.Frame
    frame_now = frame is f rest nodes ws a k stands active held_so own may

    abbrev entries_now : List B.Entry
    entries_now = entries is f rest nodes ws a k stands active held_so own may

    abbrev tag_now : Tag
    tag_now = tag_with (Some k.marks) own

    abbrev flat_now : Counts
    flat_now = flushed k (mode_of is) ws

    abbrev around_now : W.Path
    around_now = grown f full_here ∷ rest

    counted-ok : k.is_frameset_ok ≡ false → counted_here.is_frameset_ok ≡ false
    counted-ok z = ok-after (G.group own.name) flat_now.is_frameset_ok (flushed-ok k (mode_of is) ws z)

    order-flat : Ordered low flat_now.next is
    order-flat = subst (λ n. Ordered low n is) (sym (flushed-next k (mode_of is) ws)) order

    order-in : Ordered low counted_here.next (me_now ∷ is)
    order-in = (omega arith, order-flat)

    stands-now : Y.is_alone (G.group own.name) ≡ false → Stands outer numbered (me_now ∷ is) frame_now around_now
    stands-now l = stands-in is f rest nodes ws a k stands active held_so own may l

    active-now : Active base entries_now (me_now ∷ is)
    active-now = entered base all.none (G.group own.name) me_now a is refl active

    none-grown : (ts : HtmlForest) → Y.is_none ts ≡ true → X.grown P.no_nodes ts ≡ P.no_nodes
    none-grown none h = refl
    none-grown (text bytes more) h = absurd (true≢false (sym h))
    none-grown (comment bytes more) h = absurd (true≢false (sym h))
    none-grown (tag u below more) h = absurd (true≢false (sym h))

    order-on : (j : Counts) → k.next ≤ j.next → Ordered low j.next is
    order-on j l = Ordered-up low k.next j.next is l order

    home : builder.is_foreign (at is f rest nodes a k ws) ≡ false
    home = held-home b f nodes rest a (mode_of is) k ws stands.html

    flat-reads : flat_now.reads ≡ data_state
    flat-reads = flushed-reads k (mode_of is) ws

    -- its start tag sets the data state, as its name does
    sets : {c d : B.Builder} → c ≡ d → d.reads ≡ flat_now.reads → SetsByName builder c (StartTag own.name own.attributes false)
    sets e h = ap (λ (x : B.Builder). x.reads) e ∙ h ∙ flat-reads ∙ sym (sets-data own.name (stands-twin (G.group own.name) (names_of is) own.name may))

    void-ran : (children more : HtmlForest) → is_void own.name ≡ true → Y.is_alone (G.group own.name) ≡ true → Y.is_none children ≡ true →
        Ran is f rest (W.and_element full_here tag_now W.no_nodes) [] (P.and_element grow own P.no_nodes) a counted_here more → Ran is f rest nodes ws grow a k (tag own children more)
    void-ran children more v l n r =
        onwards (tag own children more) more (StartTag own.name own.attributes false ∷ [])
        (ap (λ (x : Bool). StartTag own.name own.attributes false ∷ (if x then html_tokens_of more else html_tokens_of children ++ (EndTag own.name ∷ html_tokens_of more))) v)
        (void-goes is f rest nodes ws a k stands active held_so own may l)
        (home, sets (void-goes is f rest nodes ws a k stands active held_so own may l) refl, subst (λ c. builder.is_foreign c ≡ false) (sym (void-goes is f rest nodes ws a k stands active held_so own may l)) (ap not stands.html))
        (ap (λ (x : P.Nodes). X.grown (P.and_element grow own x) more) (none-grown children n))
        (flat-later k (mode_of is) ws) counted-ok r

    abbrev After : HtmlForest → Type 0
    After children = Ran (me_now ∷ is) frame_now around_now W.no_nodes [] P.no_nodes entries_now counted_here children

    closed-now : {children : HtmlForest} (inner : After children) → Y.is_alone (G.group own.name) ≡ false →
        Closed is f rest nodes ws a k stands active held_so own may inner.to inner.waits inner.left inner.counts
    closed-now inner l = closes-goes is f rest nodes ws a k stands active held_so own may inner.to inner.waits inner.left inner.counts l order-flat inner.active inner.held_so

    abbrev below_now : {children : HtmlForest} → After children → W.Nodes
    below_now inner = put_in inner.to inner.waits inner.counts.marks

    abbrev counts_now : {children : HtmlForest} → After children → Counts
    counts_now inner = ticked (flushed inner.counts (mode_of (me_now ∷ is)) inner.waits) (suc inner.counts.marks)

    counts-later : {children : HtmlForest} (inner : After children) → k.next ≤ (counts_now inner).next
    counts-later inner = omega (arith, flat-later k (mode_of is) ws, inner.later, flushed-next inner.counts (mode_of (me_now ∷ is)) inner.waits)

    counts-ok : {children : HtmlForest} (inner : After children) → k.is_frameset_ok ≡ false → (counts_now inner).is_frameset_ok ≡ false
    counts-ok inner z = flushed-ok inner.counts (mode_of (me_now ∷ is)) inner.waits (inner.ok (counted-ok z))

    element-ran : (children more : HtmlForest) → is_void own.name ≡ false → (l : Y.is_alone (G.group own.name) ≡ false) → (Y.is_preformatted (G.group own.name) && Y.begins_line children) ≡ false →
        (inner : After children) →
        Ran is f rest (with_element full_here tag_now (below_now inner)) [] (P.and_element grow own (X.grown P.no_nodes children)) (closed-now inner l).left (counts_now inner) more →
        Ran is f rest nodes ws grow a k (tag own children more)
    element-ran children more v l q inner r =
        let start : HtmlToken = StartTag own.name own.attributes false in
        let end : HtmlToken = EndTag own.name in
        let opened_now = opens-goes is f rest nodes ws a k stands active held_so own may l in
        onwards (tag own children more) more (start ∷ (html_tokens_of children ++ (end ∷ [])))
        (ap (λ (x : Bool). start ∷ (if x then html_tokens_of more else html_tokens_of children ++ (end ∷ html_tokens_of more))) v
        ∙ ap (λ (x : List HtmlToken). start ∷ x) (sym (append_assoc (html_tokens_of children) (end ∷ []) (html_tokens_of more))))
        (ap (λ c. M.tokens_done c (map token_of (html_tokens_of children ++ (end ∷ [])))) (opens-goes is f rest nodes ws a k stands active held_so own may l)
        ∙ quiet (Y.is_preformatted (G.group own.name)) b (frame_now ∷ around_now) entries_now (mode_of (me_now ∷ is)) counted_here children own.name [] q
        ∙ tokens-append (state b (frame_now ∷ around_now) entries_now (mode_of (me_now ∷ is)) false counted_here) (html_tokens_of children) (end ∷ [])
        ∙ ap (λ c. M.token_done c (token_of end)) inner.runs
        ∙ (closed-now inner l).goes) (
          home,
          sets opened_now refl,
          subst (λ c. GoesByName builder c (map plain (html_tokens_of children ++ (end ∷ [])))) (sym opened_now)
              (quiet-goes (Y.is_preformatted (G.group own.name)) b (frame_now ∷ around_now) entries_now (mode_of (me_now ∷ is)) counted_here children own.name q
              (goes-append (state b (frame_now ∷ around_now) entries_now (mode_of (me_now ∷ is)) false counted_here) (html_tokens_of children) (end ∷ []) inner.goes
              (subst (λ c. GoesByName builder c (map plain (end ∷ []))) (sym inner.runs) (
                held-home b frame_now inner.to around_now inner.left (mode_of (me_now ∷ is)) inner.counts inner.waits refl,
                tt,
                subst (λ c. builder.is_foreign c ≡ false) (sym (closed-now inner l).goes) (ap not stands.html),
              )))),
        )
        refl (counts-later inner) (counts-ok inner) r

  pub ran : (ts : HtmlForest) (is : List Inner) (f : W.Frame) (rest : W.Path) (nodes : W.Nodes) (ws : List ℕ) (own : P.Nodes) (a : List B.Entry) (k : Counts) →
      Stands outer numbered is f rest → Ordered low k.next is → Active base a is → IsHeld (pmode is) ws → ((n : ℕ) → Same (put_in nodes ws n) own) →
      Y.stay (names_of is) ts ≡ true → Ran is f rest nodes ws own a k ts
  ran none is f rest nodes ws own a k stands o active h s st = record {
    to = nodes;
    waits = ws;
    left = a;
    counts = k;
    later = omega arith;
    active = active;
    ok = λ z. z;
    held_so = h;
    same = s;
    runs = refl;
    goes = held-home b f nodes rest a (mode_of is) k ws stands.html;
  }
  ran (text bytes more) is f rest nodes ws own a k stands o active h s st =
      let two = and_parts (list_all (Y.may_be_read (P.is_flow (pmode is))) bytes) (Y.stay (names_of is) more) st in
      text-ran bytes more is f rest nodes ws own a k stands active h s two.0
      (λ mid mids j e w same. ran more is f rest mid mids (X.with_characters own bytes) a j stands (subst (λ n. Ordered low n is) (sym e) o) active w same two.1)
  ran (comment bytes more) is f rest nodes ws own a k stands o active h s st = absurd (true≢false (sym st))
  ran (tag t children more) is f rest nodes ws own a k stands o active h s st =
      let as_void : Bool = Y.is_alone (G.group t.name) && Y.is_none children in
      let ready : Bool = not (Y.is_alone (G.group t.name)) && not (Y.is_preformatted (G.group t.name) && Y.begins_line children) in
      let below : Bool = Y.stay (t.name ∷ names_of is) children in
      let parts = and_parts (Y.may_stand (names_of is) t.name && (if is_void t.name then as_void else ready && below)) (Y.stay (names_of is) more) st in
      let here = and_parts (Y.may_stand (names_of is) t.name) (if is_void t.name then as_void else ready && below) parts.0 in
      elim (tag_parts (is_void t.name) as_void (ready && below) here.1) [
        | inl y ↦ (
            let q = and_parts (Y.is_alone (G.group t.name)) (Y.is_none children) y.1 in
            void-ran is f rest nodes ws own a k stands o active h s t here.0 children more y.0 q.0 q.1
            (ran more is f rest (W.and_element (put_in nodes ws k.marks) (tag_with (Some k.marks) t) W.no_nodes) [] (P.and_element own t P.no_nodes) a
            (counted_here is f rest nodes ws own a k stands o active h s t here.0) stands
            (order-on is f rest nodes ws own a k stands o active h s t here.0 (counted_here is f rest nodes ws own a k stands o active h s t here.0) (flat-later k (mode_of is) ws))
            active tt (λ n. same-alone t (Some k.marks) (s k.marks)) parts.1))
        | inr y ↦ (
            let p = and_parts ready below y.1 in
            let q = and_parts (not (Y.is_alone (G.group t.name))) (not (Y.is_preformatted (G.group t.name) && Y.begins_line children)) p.0 in
            let l : Y.is_alone (G.group t.name) ≡ false = not-true _ q.0 in
            let inner : After is f rest nodes ws own a k stands o active h s t here.0 children =
            ran children (me_now is f rest nodes ws own a k stands o active h s t here.0 ∷ is) (frame_now is f rest nodes ws own a k stands o active h s t here.0)
            (around_now is f rest nodes ws own a k stands o active h s t here.0) W.no_nodes [] P.no_nodes (entries_now is f rest nodes ws own a k stands o active h s t here.0)
            (counted_here is f rest nodes ws own a k stands o active h s t here.0)
            (stands-now is f rest nodes ws own a k stands o active h s t here.0 l) (order-in is f rest nodes ws own a k stands o active h s t here.0)
            (active-now is f rest nodes ws own a k stands o active h s t here.0) tt (λ _. same-none) p.1 in
            let closed = closed-now is f rest nodes ws own a k stands o active h s t here.0 inner l in
            let to : Counts = counts_now is f rest nodes ws own a k stands o active h s t here.0 inner in
            element-ran is f rest nodes ws own a k stands o active h s t here.0 children more y.0 l (not-true _ q.1) inner
            (ran more is f rest (with_element (put_in nodes ws k.marks) (tag_with (Some k.marks) t) (put_in inner.to inner.waits inner.counts.marks)) []
            (P.and_element own t (X.grown P.no_nodes children)) closed.left to stands
            (order-on is f rest nodes ws own a k stands o active h s t here.0 to (counts-later is f rest nodes ws own a k stands o active h s t here.0 inner))
            closed.still_active tt (λ n. same-element t (Some k.marks) (s k.marks) (inner.same inner.counts.marks)) parts.1))
      ]
