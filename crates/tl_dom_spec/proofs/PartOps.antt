-- What is done to both builders side by side leaves them alike.
use Rattle.std.proofs.Common.{Bool, List, Option, [], ap, ap₂, false, if◌then◌else◌, map, refl, subst, suc, sym, true, true≢false, ℕ, ◌==◌, ◌∙◌, ◌∷◌, ◌≡◌}
use Rattle.tl_html_spec.specs.HtmlTokenizer.{State}
use Rattle.tl_tree_spec.specs.Builder as P
use Rattle.tl_tree_spec.specs.HtmlForest.{HtmlTag}
use Rattle.tl_dom_spec.specs.Tags.{Tag}
use Rattle.tl_dom_spec.specs.Marks.{marked, unmarked}
use Rattle.tl_dom_spec.specs.Path as W
use Rattle.tl_dom_spec.specs.Builder as B
use Rattle.tl_dom_spec.specs.Formatting as F
use Rattle.tl_dom_spec.proofs.PartPaths.{IsStack, frame_of, frames_of, has_in, implied_is, is_open_number, nodes_of, path_of, tag_of, tag_with, through_is}
use Rattle.tl_dom_spec.proofs.PartActive.{with_room_is}
use Rattle.tl_dom_spec.proofs.PartBuilders.{Like, entry_of, in_caption, mode_is}
use Rattle.tl_dom_spec.proofs.PartSources.{bare_entries, bare_nodes, bare_path, caught_up-bare, implied_closed-bare, is_open_number-bare, on_top-bare, popped_through-bare, put-bare, seen, with_room-bare}
use Rattle.tl_dom_spec.specs.Partial.{unnumbered}
use Rattle.std.proofs.lemmas.Bool.{eq-eqb}

module _ {b : P.Builder} {c : B.Builder} (h : Like b c) where
  -- another path, another list, another mode

  pub with_path : (s : P.Stack) (path : W.Path) → bare_path path ≡ path_of (frames_of s) → Like (P.with_stack b s) (B.with_path c path)
  with_path s path e = record {
    path = e;
    active = h.active;
    next = h.next;
    mode = h.mode;
    skips = h.skips;
    fostering = h.fostering;
    quirks = h.quirks;
    templates = h.templates;
    context = h.context;
    search = h.search;
  }

  pub with_active : (es : List P.Entry) (fs : List B.Entry) → bare_entries fs ≡ map entry_of es → Like (record b { active = es }) (record c { active = fs })
  with_active es fs e = record {
    path = h.path;
    active = e;
    next = h.next;
    mode = h.mode;
    skips = h.skips;
    fostering = h.fostering;
    quirks = h.quirks;
    templates = h.templates;
    context = h.context;
    search = h.search;
  }

  pub in_mode : (m : P.Mode) → Like (record b { mode = m }) (record c { mode = mode_is (in_caption c.context) m })
  in_mode m = record {
    path = h.path;
    active = h.active;
    next = h.next;
    mode = refl;
    skips = h.skips;
    fostering = h.fostering;
    quirks = h.quirks;
    templates = h.templates;
    context = h.context;
    search = h.search;
  }

  pub skipping : (v : Bool) → Like (record b { skips = v }) (record c { skips = v })
  skipping v = record {
    path = h.path;
    active = h.active;
    next = h.next;
    mode = h.mode;
    skips = refl;
    fostering = h.fostering;
    quirks = h.quirks;
    templates = h.templates;
    context = h.context;
    search = h.search;
  }

  -- what only the whole builder has

  pub reading : (s : State) → Like b (record c { reads = s })
  reading s = record {
    path = h.path;
    active = h.active;
    next = h.next;
    mode = h.mode;
    skips = h.skips;
    fostering = h.fostering;
    quirks = h.quirks;
    templates = h.templates;
    context = h.context;
    search = h.search;
  }

  pub frameset_not_ok : Like b (B.frameset_not_ok c)
  frameset_not_ok = record {
    path = h.path;
    active = h.active;
    next = h.next;
    mode = h.mode;
    skips = h.skips;
    fostering = h.fostering;
    quirks = h.quirks;
    templates = h.templates;
    context = h.context;
    search = h.search;
  }

  pub counting : (added tokens excess : ℕ) → Like b (record c { added = added; tokens = tokens; excess = excess })
  counting added tokens excess = record {
    path = h.path;
    active = h.active;
    next = h.next;
    mode = h.mode;
    skips = h.skips;
    fostering = h.fostering;
    quirks = h.quirks;
    templates = h.templates;
    context = h.context;
    search = h.search;
  }

  pub numbering : (n : ℕ) → Like b (record c { marks = n })
  numbering n = record {
    path = h.path;
    active = h.active;
    next = h.next;
    mode = h.mode;
    skips = h.skips;
    fostering = h.fostering;
    quirks = h.quirks;
    templates = h.templates;
    context = h.context;
    search = h.search;
  }

  -- insertions

  place_is : B.appropriate_place c ≡ W.here
  place_is = ap (λ v. W.place_in v c.path) h.fostering

  abbrev pushed : Bool → W.Path → ℕ → Tag → W.Path
  pushed fostering path next tag = B.pushed_at (W.place_in fostering path) (W.new_frame next tag (W.place_in fostering path)) path

  pushed-bare : (path : W.Path) (next : ℕ) (tag : Tag) → bare_path (pushed false path next tag) ≡ pushed false (bare_path path) next (unnumbered tag)
  pushed-bare path next tag = ap (λ fs. W.new_frame next (unnumbered tag) W.here ∷ fs) (on_top-bare W.caught_up W.caught_up caught_up-bare path)

  pushed_is : (own : HtmlTag) (source : Option ℕ) → bare_path (pushed c.is_fostering c.path c.next (tag_with source own)) ≡ path_of (frames_of (P.inserted b own).stack)
  pushed_is own source =
      ap (λ v. bare_path (pushed v c.path c.next (tag_with source own))) h.fostering
      ∙ pushed-bare c.path c.next (tag_with source own)
      ∙ ap₂ (λ p n. pushed false p n (tag_of own)) h.path h.next

  pub inserted : (own : HtmlTag) (source : Option ℕ) → Like (P.inserted b own) (B.insert_element (tag_with source own) c)
  inserted own source = record {
    path = pushed_is own source;
    active = h.active;
    next = ap suc h.next;
    mode = h.mode;
    skips = h.skips;
    fostering = h.fostering;
    quirks = h.quirks;
    templates = h.templates;
    context = h.context;
    search = h.search;
  }

  abbrev put_in : Bool → W.Path → W.Nodes → W.Path
  put_in fostering path nodes = W.put (W.place_in fostering path) nodes path

  put_is : (nodes : W.Nodes) → bare_path (put_in c.is_fostering c.path nodes) ≡ put_in false (path_of (frames_of b.stack)) (bare_nodes nodes)
  put_is nodes = ap (λ v. bare_path (put_in v c.path nodes)) h.fostering ∙ put-bare W.here nodes c.path ∙ ap (λ p. put_in false p (bare_nodes nodes)) h.path

  pub alone : (own : HtmlTag) (source : Option ℕ) → Like (P.alone b own) (B.insert_and_pop (tag_with source own) c)
  alone own source = record {
    path = put_is (W.and_element W.no_nodes (tag_with source own) W.no_nodes);
    active = h.active;
    next = ap suc h.next;
    mode = h.mode;
    skips = h.skips;
    fostering = h.fostering;
    quirks = h.quirks;
    templates = h.templates;
    context = h.context;
    search = h.search;
  }

  character_in : (nodes : P.Nodes) (x : ℕ) → W.joined (nodes_of nodes) (W.and_text W.no_nodes (unmarked (x ∷ []))) ≡ nodes_of (P.and_character nodes x)
  character_in P.no_nodes x = refl
  character_in (P.and_text nodes bytes) x = refl
  character_in (P.and_element nodes own children) x = refl

  pub character : (x : ℕ) → Like (P.with_character b x) (B.insert_character x c)
  character x =
      let e : put_in false (path_of (frames_of b.stack)) (W.and_text W.no_nodes (unmarked (x ∷ []))) ≡ path_of (frames_of (P.with_character b x).stack) =
      ap (λ (nodes : W.Nodes). record (frame_of b.stack.current) { children = nodes } ∷ path_of b.stack.others) (character_in b.stack.current.children x) in
      with_path (P.with_character b x).stack (put_in c.is_fostering c.path (W.and_text W.no_nodes (marked c.marks (x ∷ [])))) (put_is (W.and_text W.no_nodes (marked c.marks (x ∷ []))) ∙ e)

  -- formatting elements

  pub formatted : (own : HtmlTag) (source : Option ℕ) → Like (P.formatted b own) (F.insert_formatting_element (tag_with source own) c)
  formatted own source =
      let e : bare_entries (F.with_room (tag_with source own) c.active) ≡ map entry_of (P.with_room own b.active) =
      with_room-bare (tag_with source own) c.active ∙ ap (F.with_room (tag_of own)) h.active ∙ with_room_is own b.active in
      record {
        path = pushed_is own source;
        active = ap₂ (λ (n : ℕ) fs. B.formatting n (tag_of own) ∷ fs) h.next e;
        next = ap suc h.next;
        mode = h.mode;
        skips = h.skips;
        fostering = h.fostering;
        quirks = h.quirks;
        templates = h.templates;
        context = h.context;
        search = h.search;
      }

  pub reopened : (own : HtmlTag) (tag : Tag) → unnumbered tag ≡ tag_of own → Like (P.reopened own b) (F.reopen tag c)
  reopened own tag e = record {
    path = ap (λ v. bare_path (pushed v c.path c.next tag)) h.fostering
        ∙ pushed-bare c.path c.next tag
        ∙ ap (pushed false (bare_path c.path) c.next) e
        ∙ ap₂ (λ p n. pushed false p n (tag_of own)) h.path h.next;
    active = ap (λ t. B.formatting c.next t ∷ bare_entries c.active) e ∙ ap₂ (λ (n : ℕ) fs. B.formatting n (tag_of own) ∷ fs) h.next h.active;
    next = ap suc h.next;
    mode = h.mode;
    skips = h.skips;
    fostering = h.fostering;
    quirks = h.quirks;
    templates = h.templates;
    context = h.context;
    search = h.search;
  }

abbrev part_rebuilt : P.Builder → P.Element → List P.Entry → Bool → P.Builder
part_rebuilt b e es is_open = if is_open then record b { active = P.formatting e ∷ es } else P.reopened e.own (P.rebuilt b es)

abbrev whole_rebuilt : B.Builder → ℕ → Tag → List B.Entry → Bool → B.Builder
whole_rebuilt c k tag fs is_open = elim is_open as (λ _. B.Builder) [
  | true ↦ record c { active = B.formatting k tag ∷ fs }
  | false ↦ F.reopen tag (F.reopen_each c fs)
]

either-rebuilt : {b : P.Builder} {c : B.Builder} (h : Like b c) (e : P.Element) (es : List P.Entry) (k : ℕ) (tag : Tag) (fs : List B.Entry) →
    bare_entries (B.formatting k tag ∷ fs) ≡ map entry_of (P.formatting e ∷ es) → unnumbered tag ≡ tag_of e.own → Like (P.rebuilt b es) (F.reopen_each c fs) →
    (v : Bool) → Like (part_rebuilt b e es v) (whole_rebuilt c k tag fs v)
either-rebuilt h e es k tag fs is own more true = with_active h (P.formatting e ∷ es) (B.formatting k tag ∷ fs) is
either-rebuilt h e es k tag fs is own more false = reopened more e.own tag own

-- entries that are the same but for numbers of start tags

abbrev number_in : ℕ → List B.Entry → ℕ
number_in n [] = n
number_in n (B.marker ∷ fs) = n
number_in n (B.formatting k tag ∷ fs) = k

abbrev tag_in : Tag → List B.Entry → Tag
tag_in t [] = t
tag_in t (B.marker ∷ fs) = t
tag_in t (B.formatting k tag ∷ fs) = tag

abbrev behind : List B.Entry → List B.Entry
behind [] = []
behind (f ∷ fs) = fs

abbrev form_of : List B.Entry → ℕ
form_of [] = 0
form_of (B.marker ∷ fs) = 1
form_of (B.formatting k tag ∷ fs) = 2

other_forms : (n m : ℕ) → n ≡ m → (n == m) ≡ false → ⊥
other_forms n m e o = true≢false (sym (eq-eqb n m e) ∙ o)

rebuilt : {b : P.Builder} {c : B.Builder} (h : Like b c) (es : List P.Entry) (fs : List B.Entry) → bare_entries fs ≡ map entry_of es → Like (P.rebuilt b es) (F.reopen_each c fs)
rebuilt h [] [] e = with_active h [] [] refl
rebuilt h [] (B.marker ∷ fs) e = absurd (other_forms 1 0 (ap form_of e) refl)
rebuilt h [] (B.formatting k tag ∷ fs) e = absurd (other_forms 2 0 (ap form_of e) refl)
rebuilt h (P.marker ∷ es) [] e = absurd (other_forms 0 1 (ap form_of e) refl)
rebuilt h (P.marker ∷ es) (B.marker ∷ fs) e = with_active h (P.marker ∷ es) (B.marker ∷ fs) e
rebuilt h (P.marker ∷ es) (B.formatting k tag ∷ fs) e = absurd (other_forms 2 1 (ap form_of e) refl)
rebuilt h (P.formatting x ∷ es) [] e = absurd (other_forms 0 2 (ap form_of e) refl)
rebuilt h (P.formatting x ∷ es) (B.marker ∷ fs) e = absurd (other_forms 1 2 (ap form_of e) refl)
rebuilt {b = b} {c = c} h (P.formatting x ∷ es) (B.formatting k tag ∷ fs) e =
    let number : k ≡ suc x.number = ap (number_in 0) e in
    let own : unnumbered tag ≡ tag_of x.own = ap (tag_in (unnumbered tag)) e in
    let test : W.is_open_number k c.path ≡ P.is_open x.number (P.elements b.stack) =
    ap (λ n. W.is_open_number n c.path) number ∙ is_open_number-bare (suc x.number) c.path
    ∙ ap (W.is_open_number (suc x.number)) h.path ∙ is_open_number x.number b.stack in
    subst (λ v. Like (part_rebuilt b x es (P.is_open x.number (P.elements b.stack))) (whole_rebuilt c k tag fs v)) (sym test)
    (either-rebuilt h x es k tag fs e own (rebuilt h es fs (ap behind e)) (P.is_open x.number (P.elements b.stack)))

pub reconstructed : {b : P.Builder} {c : B.Builder} (h : Like b c) → Like (P.reconstructed b) (F.reconstruct_formatting c)
reconstructed {b = b} {c = c} h = rebuilt h b.active c.active h.active

-- what is popped

pub implied : {b : P.Builder} {c : B.Builder} (h : Like b c) (but : List ℕ → Bool) (excepted : Tag → Bool) → ((own : HtmlTag) → but own.name ≡ excepted (tag_of own)) →
    IsStack b.stack.current b.stack.others →
    Like (P.with_stack b (P.implied_closed but b.stack.current b.stack.others)) (B.generate_implied_end_tags_except_for (seen excepted) c)
implied {b = b} {c = c} h but excepted same k =
    with_path h (P.implied_closed but b.stack.current b.stack.others) (W.implied_closed (seen excepted) c.path)
    (implied_closed-bare excepted c.path ∙ ap (W.implied_closed excepted) h.path ∙ implied_is but excepted same b.stack k)

pub popped_until : {b : P.Builder} {c : B.Builder} (h : Like b c) (test : List ℕ → Bool) (tested : Tag → Bool) → ((own : HtmlTag) → test own.name ≡ tested (tag_of own)) →
    has_in (P.has_name test) b.stack.current b.stack.others ≡ true →
    Like (P.with_stack b (P.popped_through (P.has_name test) b.stack.current b.stack.others)) (B.pop_until (seen tested) c)
popped_until {b = b} {c = c} h test tested same k =
    with_path h (P.popped_through (P.has_name test) b.stack.current b.stack.others) (W.popped_through (W.has_tag (seen tested)) c.path)
    (popped_through-bare (W.has_tag (seen tested)) (W.has_tag tested) (λ _. refl) c.path ∙ ap (W.popped_through (W.has_tag tested)) h.path ∙ through_is (P.has_name test) (W.has_tag tested) (λ f. same f.element.own) b.stack k)
