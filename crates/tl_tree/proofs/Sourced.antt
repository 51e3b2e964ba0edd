-- Where the marks stand that a reader took, and what the tree of them answers.
use Rattle.std.proofs.Common.{Bool, List, None, Option, Some, [], ap, append_assoc, arith, false, if◌then◌else◌, inl, inr, length, length-append, le_refl, map, refl, slice_get, subst, suc, sym, true, zero, ℕ, ◌+◌, ◌++◌, ◌<◌, ◌∙◌, ◌∷◌, ◌≡◌, ◌≤◌}
use Rattle.std.proofs.lemmas.List.{append-nil}
use Rattle.std.proofs.lemmas.Option.{none-some, same_Some}
use Rattle.std.specs.Option.{option_and_then, option_map, unwrap_or}
use Rattle.std.specs.Prelude.{⊤}
use Rattle.tl_dom_spec.proofs.Allowed.{Allowed, Each, IfSome, IsText}
use Rattle.tl_dom_spec.proofs.DispatcherRules.{fragment_start-Holds, marks_after, marks_are, page_start-Holds, token-Holds, tokens-Holds}
use Rattle.tl_dom_spec.proofs.HeadRules.{Allows}
use Rattle.tl_dom_spec.proofs.Kept.{Holds}
use Rattle.tl_dom_spec.proofs.NumberLaw.{by_numbers, number_start}
use Rattle.tl_dom_spec.proofs.TreesFollow.{Follows, Owned, children-Follows, document-Follows, taken_tokens}
use Rattle.tl_dom_spec.specs.Builder.{Builder, Flags, Token, a_character, end_of_file}
use Rattle.tl_dom_spec.specs.Dispatcher.{token_done, tokens_done}
use Rattle.tl_dom_spec.specs.Driver.{builder, emitted_token}
use Rattle.tl_dom_spec.specs.Groups.{group}
use Rattle.tl_dom_spec.specs.HtmlForest.{HtmlForest, comment, doctype, element, has_contents, no_trees, text}
use Rattle.tl_dom_spec.specs.HtmlTree.{Context, children_of, document_of, is_little}
use Rattle.tl_dom_spec.specs.Lawful.{EachComment, EachDoctype, EachElement, EachText, all_numbered}
use Rattle.tl_dom_spec.specs.Tags.{Tag, html_tag}
use Rattle.tl_html_spec.specs.Driven.{Emission, characters, taken}
use Rattle.tl_html_spec.specs.HtmlTokenizer.{State, with_feeds}
use Rattle.tl_html_tokens.proofs.Told.{front_told}
use Rattle.tl_html_tokens.specs.Characters.{characters_of}
use Rattle.tl_html_tokens.specs.Driving.{opens_section, state_set}
use Rattle.tl_html_tokens.specs.Emits.{AreEmits, IsTold, front_bytes}
use Rattle.tl_html_tokens.specs.Fronts.{IsFront}
use Rattle.tl_html_tokens.specs.Modes.{state_of}
use Rattle.tl_html_tokens.specs.Sections.{IsSection, section_text}
use Rattle.tl_html_tokens.specs.declared.front.Front.{Front}
use Rattle.tl_html_tokens.specs.declared.mode.Mode.{Mode}
use Rattle.tl_html_tokens.specs.declared.mode.Mode.TheVariants as modes
use Rattle.tl_html_tokens.specs.declared.section.Section.{Section}
use Rattle.tl_html_tokens.specs.declared.stage.TokenKind.{TokenKind}
use Rattle.tl_html_tokens.specs.declared.stage.TokenKind.TheVariants as kind
use Rattle.tl_tree.proofs.Taken.{characters-taken}
use Rattle.tl_tree.specs.Asked.{node_at}
use Rattle.tl_tree.specs.Inner.Builders.{builder_of}
use Rattle.tl_tree.specs.Inner.Sourced.{AreSources, IsFurther, IsSourced, TakesNext, bounds_of, places_of, reached_of, with_source}
use Rattle.tl_tree.specs.Rows.{Node, Row, a_comment, a_doctype, a_text, an_element, contents, contents_count, contents_rows, row_count, rows_from, rows_of}
use Rattle.tl_tree.specs.Sources.{AreSourced, IsGapAt, IsMarkAt, IsNext, IsOutOfProportionAt, IsSourceOf, IsStartTagAt, Mark, Reached, Reads, Stands, at_begin, at_end, behind_front, behind_piece, behind_section, bounds_in, fragment_begin, further, gap_at, gap_end, gap_start, is_mark, node_source, page_begin, past_front, past_section, place_at, source_at, source_of, start_or, start_tag_at, with_mark}
use Rattle.tl_tree.specs.TreeView.{rows_in}
use Rattle.tl_tree.specs.declared.reader.Reader.{Reader}
use Rattle.tl_tree.specs.declared.source.Bounds.{Bounds}
use Rattle.tl_tree.specs.declared.source.Source.{Source}
use Rattle.tl_tree.specs.declared.tree.Tree.{Tree}

same-reached : (a b : Reached) → a.at ≡ b.at → a.state ≡ b.state → a.built ≡ b.built → a.marks ≡ b.marks → a ≡ b
same-reached a b e f g h =
    ap (λ (n : ℕ). record a { at = n }) e
    ∙ (ap (λ (s : State). record b { state = s; built = a.built; marks = a.marks }) f
    ∙ (ap (λ (d : Builder). record b { built = d; marks = a.marks }) g
    ∙ ap (λ (ms : List Mark). record b { marks = ms }) h))

-- before the first token
pub begun : (begin : Reached) (r : Reader) → r.at ≡ begin.at → state_of r.mode ≡ begin.state → builder_of r.builder ≡ begin.built → begin.marks ≡ [] → bounds_in r.sources ≡ record { start = 0; end = begin.at } ∷ [] → IsSourced begin r
begun begin r at state built none first =
    record {
      marks = [];
      read = subst (Reads r.page.now begin) (sym (same-reached (reached_of r []) begin at state built (sym none))) at_begin;
      sources = first;
    }

pub first-place : (end begin : ℕ) (ys : List Bounds) → ys ≡ record { start = 0; end = end } ∷ [] → end ≡ begin → ys ≡ record { start = 0; end = begin } ∷ []
first-place end begin ys e same = e ∙ ap (λ (n : ℕ). let own : Bounds = record { start = 0; end = n } in own ∷ []) same

-- Behind what stood in front

map-append : (marks : List Mark) (own : Mark) → map bounds_of (marks ++ own ∷ []) ≡ map bounds_of marks ++ bounds_of own ∷ []
map-append [] own = refl
map-append (m ∷ marks) own = ap (λ xs. bounds_of m ∷ xs) (map-append marks own)

places-behind : (begin : ℕ) (marks : List Mark) (start : ℕ) (front : Front) → places_of begin (with_mark marks start front) ≡ with_source (places_of begin marks) start front
places-behind begin marks start front = by-mark (is_mark front.kind)
  where
    own : Mark
    own = record { kind = front.kind; start = start; end = front.end }

    by-mark : (v : Bool) → places_of begin (if v then marks ++ own ∷ [] else marks) ≡ (if v then places_of begin marks ++ bounds_of own ∷ [] else places_of begin marks)
    by-mark true = ap (λ (xs : List Bounds). record { start = 0; end = begin } ∷ xs) (map-append marks own)
    by-mark false = refl

pub front-sourced : (begin : ℕ) (marks : List Mark) (r r' : Reader) (front : Front) → IsFront r.page.now r.at r.mode front → opens_section builder (builder_of r.builder) r.page.now r.at r.mode ≡ false →
    ((emits : List Emission) → AreEmits r.mode (front_bytes r.page.now r.at front) front.kind emits → builder_of r'.builder ≡ taken builder (builder_of r.builder) emits) →
    state_of r'.mode ≡ state_set builder (builder_of r'.builder) front → r'.at ≡ front.end → bounds_in r'.sources ≡ with_source (bounds_in r.sources) r.at front →
    bounds_in r.sources ≡ places_of begin marks → IsFurther begin marks r r'
front-sourced begin marks r r' front f closed ok state at sources kept =
    let own : Reached = reached_of r marks in
    let later = with_mark marks r.at front in
    let t : IsTold builder own.built r.page.now r.at r.mode front = front_told builder own.built r.page.now r.at r.mode front f closed in
    let built = ok t.emits t.told in
    let is : reached_of r' later ≡ behind_front own front t.emits = same-reached (reached_of r' later) (behind_front own front t.emits) at (state ∙ ap (λ (d : Builder). state_set builder d front) built) built refl in
    let stands : Stands r.page.now own r.mode front = record { state = refl; piece = f; no_section = closed } in
    record {
      taken = later;
      next = subst (IsNext r.page.now own) (sym is) (past_front r.mode front t.emits stands t.told);
      sources = sources ∙ (ap (λ (xs : List Bounds). with_source xs r.at front) kept ∙ sym (places-behind begin marks r.at front));
    }

-- Behind a CDATA section
pub section-sourced : (begin : ℕ) (marks : List Mark) (r r' : Reader) (b1 : Builder) (section : Section) (said : List ℕ) → IsSection r.page.now r.at section → builder.is_foreign (builder_of r.builder) ≡ true → r.mode ≡ modes.Data →
    b1 ≡ builder_of r.builder → said ≡ with_feeds (section_text r.page.now r.at section) → builder_of r'.builder ≡ tokens_done b1 (map a_character said) →
    r'.mode ≡ r.mode → r'.at ≡ section.end → bounds_in r'.sources ≡ bounds_in r.sources →
    bounds_in r.sources ≡ places_of begin marks → IsFurther begin marks r r'
section-sourced begin marks r r' b1 section said h foreign is-data is-b1 is-said is-b' mode at sources kept =
    let own : Reached = reached_of r marks in
    let bytes = with_feeds (section_text r.page.now r.at section) in
    let built : builder_of r'.builder ≡ taken builder own.built (characters bytes) =
    characters-taken own.built (builder_of r'.builder) (characters bytes) bytes
    (is-b' ∙ (ap (λ xs. tokens_done b1 (map a_character xs)) is-said ∙ ap (λ (d : Builder). tokens_done d (map a_character bytes)) is-b1)) refl in
    let is : reached_of r' marks ≡ behind_section r.page.now own section = same-reached (reached_of r' marks) (behind_section r.page.now own section) at (ap state_of (mode ∙ is-data)) built refl in
    record {
      taken = marks;
      next = subst (IsNext r.page.now own) (sym is) (past_section section (ap state_of is-data) foreign h);
      sources = sources ∙ kept;
    }

-- Behind what stood next
pub further-sourced : (begin : Reached) (r s : Reader) → s.page.now ≡ r.page.now → TakesNext r s → IsSourced begin r → IsSourced begin s
further-sourced begin r s page takes own =
    let f : IsFurther begin.at own.marks r s = takes begin.at own.marks own.sources in
    record {
      marks = f.taken;
      read = subst (λ p. Reads p begin (reached_of s f.taken)) (sym page) (further (reached_of r own.marks) (reached_of s f.taken) own.read f.next);
      sources = f.sources;
    }

-- where a tree is out of proportion
pub out-behind : (begin : Reached) (page : List ℕ) (r s : Reader) → r.page.now ≡ page → TakesNext r s → is_little (builder_of r.builder).excess ≡ true → is_little (builder_of s.builder).excess ≡ false → IsSourced begin r → IsOutOfProportionAt page begin s.at
out-behind begin page r s is takes little large own =
    let f : IsFurther begin.at own.marks r s = takes begin.at own.marks own.sources in
    subst (λ p. IsOutOfProportionAt p begin s.at) is (behind_piece (reached_of r own.marks) (reached_of s f.taken) own.read little f.next large)

pub out-at-end : (begin : Reached) (page : List ℕ) (r : Reader) (built : Builder) → r.page.now ≡ page → length r.page.now ≤ r.at → built ≡ token_done (builder_of r.builder) end_of_file → is_little (builder_of r.builder).excess ≡ true → is_little built.excess ≡ false → IsSourced begin r → IsOutOfProportionAt page begin r.at
out-at-end begin page r built is end done little large own =
    subst (λ p. IsOutOfProportionAt p begin r.at) is
    (at_end (reached_of r own.marks) own.read end little (ap (λ (d : Builder). is_little d.excess) (sym done) ∙ large))

-- At the end of the page
pub end-sourced : (page : List ℕ) (begin : Reached) (r : Reader) (built : Builder) (xs : List Bounds) → r.page.now ≡ page → bounds_in r.sources ≡ xs → length r.page.now ≤ r.at → built ≡ token_done (builder_of r.builder) end_of_file → IsSourced begin r → AreSources page begin built xs
end-sourced page begin r built xs p e end done s = record {
  last = reached_of r s.marks;
  read = subst (λ own. Reads own begin (reached_of r s.marks)) p s.read;
  whole = subst (λ (own : List ℕ). length own ≤ r.at) p end;
  done = done;
  sources = sym e ∙ s.sources;
}

-- The numbers of nodes are those of marks of their kind

-- the mark of a number is of a kind
pub record IsOf (marks : List Mark) (own : TokenKind) (number : ℕ) : Type 0 where
  pub mark : Mark
  pub found : slice_get marks number ≡ Some mark
  pub is : mark.kind ≡ own

abbrev numbered : List Mark → Allowed
numbered marks = by_numbers (IsOf marks kind.StartTag) (IsOf marks kind.Comment) (IsOf marks kind.Doctype) (λ n. n ≤ length marks)

behind-append : (xs : List Mark) (x : Mark) (ys : List Mark) → slice_get (xs ++ x ∷ ys) (length xs) ≡ Some x
behind-append [] x ys = refl
behind-append (y ∷ xs) x ys = behind-append xs x ys

characters-allowed : (marks : List Mark) (n : ℕ) (cs : List ℕ) → Each (Allows (numbered marks)) (all_numbered n (map emitted_token (characters cs)))
characters-allowed marks n [] = tt
characters-allowed marks n (c ∷ cs) = (tt, characters-allowed marks n cs)

front-allowed : (marks : List Mark) (own : TokenKind) (mode : Mode) (bytes : List ℕ) (emits : List Emission) (n : ℕ) → AreEmits mode bytes own emits → (is_mark own ≡ true → IsOf marks own n) → Each (Allows (numbered marks)) (all_numbered n (map emitted_token emits))
front-allowed marks kind.Text mode bytes emits n e w = subst (λ es. Each (Allows (numbered marks)) (all_numbered n (map emitted_token es))) (sym e) (characters-allowed marks n (characters_of mode bytes))
front-allowed marks kind.StartTag mode bytes emits n e w =
    subst (λ es. Each (Allows (numbered marks)) (all_numbered n (map emitted_token es))) (sym e.emits_are)
    (number_start _ _ _ _ (group e.name) (record (html_tag e.name e.attributes) { source = Some n }) (w refl), tt)
front-allowed marks kind.EndTag mode bytes emits n e w = subst (λ es. Each (Allows (numbered marks)) (all_numbered n (map emitted_token es))) (sym e.emits_are) (tt, tt)
front-allowed marks kind.Comment mode bytes emits n e w = subst (λ es. Each (Allows (numbered marks)) (all_numbered n (map emitted_token es))) (sym e) (w refl, tt)
front-allowed marks kind.Doctype mode bytes emits n e w = subst (λ es. Each (Allows (numbered marks)) (all_numbered n (map emitted_token es))) (sym e) (w refl, tt)
front-allowed marks kind.Nothing mode bytes emits n e w = subst (λ es. Each (Allows (numbered marks)) (all_numbered n (map emitted_token es))) (sym e) tt

marks-characters : (b : Builder) (cs : List ℕ) → (taken builder b (characters cs)).marks ≡ b.marks
marks-characters b [] = refl
marks-characters b (c ∷ cs) = marks-characters (token_done b (a_character c)) cs

marks-front : (own : TokenKind) (mode : Mode) (bytes : List ℕ) (emits : List Emission) (b : Builder) → AreEmits mode bytes own emits → (taken builder b emits).marks ≡ (if is_mark own then suc b.marks else b.marks)
marks-front kind.Text mode bytes emits b e = ap (λ es. (taken builder b es).marks) e ∙ marks-characters b (characters_of mode bytes)
marks-front kind.StartTag mode bytes emits b e = ap (λ es. (taken builder b es).marks) e.emits_are
marks-front kind.EndTag mode bytes emits b e = ap (λ es. (taken builder b es).marks) e.emits_are
marks-front kind.Comment mode bytes emits b e = ap (λ es. (taken builder b es).marks) e
marks-front kind.Doctype mode bytes emits b e = ap (λ es. (taken builder b es).marks) e
marks-front kind.Nothing mode bytes emits b e = ap (λ es. (taken builder b es).marks) e

-- as many marks were taken as there are
count-marks : (page : List ℕ) (begin r : Reached) → begin.built.marks ≡ length begin.marks → Reads page begin r → r.built.marks ≡ length r.marks
count-marks page begin r none at_begin = none
count-marks page begin _ none (further r _ read (past_front mode front emits stands told)) =
    let one = count-marks page begin r none read in
    marks-front front.kind mode (front_bytes page r.at front) emits r.built told ∙ by-mark (is_mark front.kind) one
  where
    by-mark : (v : Bool) → r.built.marks ≡ length r.marks → (if v then suc r.built.marks else r.built.marks) ≡ length (if v then r.marks ++ record { kind = front.kind; start = r.at; end = front.end } ∷ [] else r.marks)
    by-mark true e = let long = length-append r.marks (record { kind = front.kind; start = r.at; end = front.end } ∷ []) in omega (arith, e, long)
    by-mark false e = e
count-marks page begin _ none (further r _ read (past_section section state foreign piece)) =
    marks-characters r.built (with_feeds (section_text page r.at section)) ∙ count-marks page begin r none read

-- what a list begins with
abbrev Begins : List Mark → List Mark → Type 0
Begins front all = (rest : List Mark) × (all ≡ front ++ rest)

begins-less : (front all : List Mark) → Begins front all → length front ≤ length all
begins-less front all b = let many = ap length b.1 ∙ length-append front b.0 in omega (arith, many)

front-begins : (marks : List Mark) (start : ℕ) (front : Front) (all : List Mark) → Begins (with_mark marks start front) all → Begins marks all
front-begins marks start front all b = by-mark (is_mark front.kind) b
  where
    own : Mark
    own = record { kind = front.kind; start = start; end = front.end }

    by-mark : (v : Bool) → Begins (if v then marks ++ own ∷ [] else marks) all → Begins marks all
    by-mark true b = (own ∷ b.0, b.1 ∙ append_assoc marks (own ∷ []) b.0)
    by-mark false b = b

front-of : (marks : List Mark) (start : ℕ) (front : Front) (all : List Mark) → Begins (with_mark marks start front) all → is_mark front.kind ≡ true → IsOf all front.kind (length marks)
front-of marks start front all b e =
    let own : Mark = record { kind = front.kind; start = start; end = front.end } in
    let more : Begins (marks ++ own ∷ []) all = subst (λ (v : Bool). Begins (if v then marks ++ own ∷ [] else marks) all) e b in
    record {
      mark = own;
      found = ap (λ xs. slice_get xs (length marks)) (more.1 ∙ append_assoc marks (own ∷ []) more.0) ∙ behind-append marks own more.0;
      is = refl;
    }

gap-within : (all : List Mark) (n m k : ℕ) → n ≤ m → m ≡ k → k ≤ length all → n ≤ length all
gap-within all n m k h e l = omega (arith, h, e, l)

read-Holds : (page : List ℕ) (begin r : Reached) (all : List Mark) → begin.built.marks ≡ length begin.marks → Reads page begin r → Begins r.marks all → Holds (numbered all) begin.built → Holds (numbered all) r.built
read-Holds page begin r all none at_begin b h = h
read-Holds page begin _ all none (further r _ read (past_front mode front emits stands told)) b h =
    let tokens : List Token = map emitted_token emits in
    let later : Reached = behind_front r front emits in
    let before = read-Holds page begin r all none read (front-begins r.marks r.at front all b) h in
    let count = count-marks page begin r none read in
    let count-later = count-marks page begin later none (further r later read (past_front mode front emits stands told)) in
    let least = begins-less later.marks all b in
    let same : tokens_done r.built tokens ≡ later.built = sym (taken_tokens r.built emits) in
    let own = λ (e : is_mark front.kind ≡ true). subst (IsOf all front.kind) (sym count) (front-of r.marks r.at front all b e) in
    subst (Holds (numbered all)) same
    (tokens-Holds (numbered all) r.built tokens (front-allowed all front.kind mode (front_bytes page r.at front) emits r.built.marks told own)
    (λ n l. gap-within all n (marks_after r.built.marks tokens) (length later.marks) l (sym (marks_are r.built tokens) ∙ (ap (λ (d : Builder). d.marks) same ∙ count-later)) least)
    before)
read-Holds page begin _ all none (further r _ read (past_section section state foreign piece)) b h =
    let bytes = with_feeds (section_text page r.at section) in
    let tokens : List Token = map emitted_token (characters bytes) in
    let before = read-Holds page begin r all none read b h in
    let count = count-marks page begin r none read in
    let least = begins-less r.marks all b in
    let same : tokens_done r.built tokens ≡ taken builder r.built (characters bytes) = sym (taken_tokens r.built (characters bytes)) in
    subst (Holds (numbered all)) same
    (tokens-Holds (numbered all) r.built tokens (characters-allowed all r.built.marks bytes)
    (λ n l. gap-within all n (marks_after r.built.marks tokens) (length r.marks) l (sym (marks_are r.built tokens) ∙ (ap (λ (d : Builder). d.marks) same ∙ (marks-characters r.built bytes ∙ count))) least)
    before)

-- and of the end of the page
ended-Holds : (page : List ℕ) (begin last : Reached) → begin.built.marks ≡ length begin.marks → Reads page begin last → Holds (numbered last.marks) begin.built → Holds (numbered last.marks) (token_done last.built end_of_file)
ended-Holds page begin last none read h =
    let count = count-marks page begin last none read in
    token-Holds (numbered last.marks) last.built end_of_file tt (gap-within last.marks last.built.marks (length last.marks) (length last.marks) (omega (arith, count)) refl (le_refl (length last.marks)))
    (read-Holds page begin last last.marks none read ([], sym (append-nil last.marks)) h)

-- The rows of such trees

abbrev IsNode : List Mark → Node → Type 0
IsNode marks (an_element tag) = IfSome (IsOf marks kind.StartTag) tag.source
IsNode marks contents = ⊤
IsNode marks (a_text own) = own.source ≤ length marks
IsNode marks (a_comment own) = IsOf marks kind.Comment own.source
IsNode marks (a_doctype own) = IsOf marks kind.Doctype own.source

abbrev EachRow : List Mark → List Row → Type 0
EachRow marks [] = ⊤
EachRow marks (row ∷ rows) = IsNode marks row.node × EachRow marks rows

each-append : (marks : List Mark) (xs ys : List Row) → EachRow marks xs → EachRow marks ys → EachRow marks (xs ++ ys)
each-append marks [] ys h k = k
each-append marks (x ∷ xs) ys h k = (h.0, each-append marks xs ys h.1 k)

each-contents : (marks : List Mark) (v : Bool) (number end : ℕ) → EachRow marks (contents_rows v number end)
each-contents marks true number end = (tt, tt)
each-contents marks false number end = tt

own-tag : (marks : List Mark) (tag : Tag) (below : HtmlForest) → Owned (numbered marks) tag below → IfSome (IsOf marks kind.StartTag) tag.source
own-tag marks tag below (inl o) = o
own-tag marks tag below (inr s) = s.0

each-row : (marks : List Mark) (number : ℕ) (parent : Option ℕ) (trees : HtmlForest) → EachElement (Owned (numbered marks)) trees → EachText (IsText (numbered marks)) trees → EachComment (numbered marks).Notes trees → EachDoctype (numbered marks).Types trees → EachRow marks (rows_from number parent trees)
each-row marks number parent no_trees e t c d = tt
each-row marks number parent (text own more) e t c d = (t.0.1, each-row marks (number + 1) parent more e t.1 c d)
each-row marks number parent (comment own more) e t c d = (c.0, each-row marks (number + 1) parent more e t c.1 d)
each-row marks number parent (doctype own more) e t c d = (d.0, each-row marks (number + 1) parent more e t c d.1)
each-row marks number parent (element tag below more) e t c d =
    let inner = number + contents_count (has_contents tag) in
    let end = inner + 1 + row_count below in (
      own-tag marks tag below e.0,
      each-append marks (contents_rows (has_contents tag) number end) _ (each-contents marks (has_contents tag) number end)
          (each-append marks (rows_from (inner + 1) (Some inner) below) (rows_from end parent more) (each-row marks (inner + 1) (Some inner) below e.1 t.0 c.0 d.0) (each-row marks end parent more e.2 t.1 c.1 d.1)),
    )

each-get : (marks : List Mark) (rows : List Row) (k : ℕ) (node : Node) → node_at rows k ≡ Some node → EachRow marks rows → IsNode marks node
each-get marks [] k node e h = absurd (none-some node e)
each-get marks (x ∷ rows) zero node e h = subst (IsNode marks) (same_Some x.node node e) h.0
each-get marks (x ∷ rows) (suc k) node e h = each-get marks rows k node e h.1

-- What the tree answers

found-bounds : (marks : List Mark) (k : ℕ) (o : Option Mark) → slice_get marks k ≡ o → slice_get (map bounds_of marks) k ≡ option_map bounds_of o
found-bounds [] k o e = ap (option_map bounds_of) e
found-bounds (m ∷ marks) zero o e = ap (option_map bounds_of) e
found-bounds (m ∷ marks) (suc k) o e = found-bounds marks k o e

-- an index behind a list has nothing, and one in it something
within-list : (marks : List Mark) (k : ℕ) → k < length marks → (m : Mark) × (slice_get marks k ≡ Some m)
within-list [] k h = absurd (let f : ⊥ = omega (arith, h) in f)
within-list (m ∷ marks) zero h = (m, refl)
within-list (m ∷ marks) (suc k) h = within-list marks k (omega (arith, h))

module _ (tree : Tree) (begin : ℕ) (end : ℕ) (marks : List Mark) (kept : bounds_in tree.sources ≡ places_of begin marks) (long : tree.page_end ≡ end) where
  mark-place : (k : ℕ) (o : Option Mark) → slice_get marks k ≡ o → place_at tree (suc k) ≡ option_map (λ (m : Mark). source_of (bounds_of m)) o
  mark-place k o e = ap (λ (xs : List Bounds). option_map source_of (slice_get xs (suc k))) kept ∙ (ap (option_map source_of) (found-bounds marks k o e) ∙ twice o)
    where
      twice : (o : Option Mark) → option_map source_of (option_map bounds_of o) ≡ option_map (λ (m : Mark). source_of (bounds_of m)) o
      twice None = refl
      twice (Some m) = refl

  page-place : place_at tree 0 ≡ Some (record { start = 0; end = begin })
  page-place = ap (λ (xs : List Bounds). option_map source_of (slice_get xs 0)) kept

  mark-found : (own : TokenKind) (k : ℕ) → IsOf marks own k → IsMarkAt marks own k (place_at tree (suc k))
  mark-found own k h =
      subst (IsMarkAt marks own k) (sym (mark-place k (Some h.mark) h.found))
      (h.found ∙ ap (λ (d : TokenKind). Some (let m : Mark = record { kind = d; start = h.mark.start; end = h.mark.end } in m)) h.is)

  gap-ends : (n : ℕ) → start_or (tree.page_end) (place_at tree (suc n)) ≡ gap_end end marks n
  gap-ends n =
      ap (start_or (tree.page_end)) (mark-place n (slice_get marks n) refl)
      ∙ (by-mark (tree.page_end) (slice_get marks n)
      ∙ ap (λ (own : ℕ). gap_end own marks n) long)
    where
      by-mark : (own : ℕ) (o : Option Mark) → start_or own (option_map (λ (m : Mark). source_of (bounds_of m)) o) ≡ unwrap_or (option_map (λ (m : Mark). m.start) o) own
      by-mark own None = refl
      by-mark own (Some m) = refl

  gap-from : (n : ℕ) (before : Source) → place_at tree n ≡ Some before → n ≤ length marks → before.end ≡ gap_start begin marks n → IsGapAt begin end marks n (gap_at tree n)
  gap-from n before e h f =
      subst (λ o. IsGapAt begin end marks n (option_map (λ (own : Source). let s : Source = record { start = own.end; end = start_or (tree.page_end) (place_at tree (suc n)) } in s) o)) (sym e)
      (h, f, gap-ends n)

  gap-found : (n : ℕ) → n ≤ length marks → IsGapAt begin end marks n (gap_at tree n)
  gap-found zero h = gap-from zero (record { start = 0; end = begin }) page-place h refl
  gap-found (suc k) h =
      let own = within-list marks k h in
      gap-from (suc k) (source_of (bounds_of own.0)) (mark-place k (Some own.0) own.1) h
      (sym (ap (λ o. unwrap_or (option_map (λ (m : Mark). m.end) o) begin) own.1))

  start-found : (o : Option ℕ) → IfSome (IsOf marks kind.StartTag) o → IsStartTagAt marks o (start_tag_at tree o)
  start-found None h = refl
  start-found (Some n) h = mark-found kind.StartTag n h

  node-found : (node : Node) → IsNode marks node → IsSourceOf begin end marks node (node_source tree node)
  node-found (an_element tag) h = start-found tag.source h
  node-found contents h = refl
  node-found (a_text own) h = gap-found own.source h
  node-found (a_comment own) h = mark-found kind.Comment own.source h
  node-found (a_doctype own) h = mark-found kind.Doctype own.source h

tree-sourced : (page : List ℕ) (begin : Reached) (tree : Tree) (trees : HtmlForest) (built : Builder) (sources : List Bounds) → rows_in tree ≡ rows_of trees → bounds_in tree.sources ≡ sources → tree.page_end ≡ length page → (s : AreSources page begin built sources) → Follows (numbered s.last.marks) trees → AreSourced page begin tree
tree-sourced page begin tree trees built sources is kept long s f = record {
  last = s.last;
  read = s.read;
  whole = s.whole;
  each = λ row node e.
      subst (IsSourceOf begin.at (length page) s.last.marks node) (sym (ap (option_and_then (node_source tree)) e))
      (node-found tree begin.at (length page) s.last.marks (kept ∙ s.sources) long node
      (each-get s.last.marks (rows_of trees) row node (ap (λ rows. node_at rows row) (sym is) ∙ e)
      (each-row s.last.marks 0 None trees f.elements f.texts f.comments f.doctypes)));
}

-- a page, and a fragment
pub page-sourced : (flags : Flags) (page : List ℕ) (tree : Tree) (built : Builder) (sources : List Bounds) → rows_in tree ≡ rows_of (document_of built).trees → bounds_in tree.sources ≡ sources → tree.page_end ≡ length page → AreSources page (page_begin flags page) built sources → AreSourced page (page_begin flags page) tree
page-sourced flags page tree built sources is kept long s =
    let own = numbered s.last.marks in
    tree-sourced page (page_begin flags page) tree (document_of built).trees built sources is kept long s
    (document-Follows own built (subst (Holds own) (sym s.done) (ended-Holds page (page_begin flags page) s.last refl s.read (page_start-Holds own flags tt tt (omega arith)))))

pub fragment-sourced : (flags : Flags) (context : Context) (page : List ℕ) (tree : Tree) (built : Builder) (sources : List Bounds) → rows_in tree ≡ rows_of (children_of built) → bounds_in tree.sources ≡ sources → tree.page_end ≡ length page → AreSources page (fragment_begin flags context) built sources → AreSourced page (fragment_begin flags context) tree
fragment-sourced flags context page tree built sources is kept long s =
    let own = numbered s.last.marks in
    tree-sourced page (fragment_begin flags context) tree (children_of built) built sources is kept long s
    (children-Follows own built (subst (Holds own) (sym s.done) (ended-Holds page (fragment_begin flags context) s.last refl s.read (fragment_start-Holds own flags context tt tt tt (omega arith)))))
