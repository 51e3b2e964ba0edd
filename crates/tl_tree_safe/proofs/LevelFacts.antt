-- What there is room for follows from levels.
use Rattle.std.proofs.Common.{◌≡◌, ℕ, suc, ◌-◌, Bool, true, false, not, ◌||◌, ◌&&◌, nat_le, nat_lt, List, [], ◌∷◌, length, get_or, codes, refl, ap, ap₂, sym, ◌∙◌, arith, if◌then◌else◌}
use Rattle.std.specs.Prelude.{⊤}
use Rattle.std.specs.Str.{bytes_eq}
use Rattle.std.proofs.lemmas.Bool.{and_parts, not-true}
use Rattle.std.proofs.lemmas.Bool.Decides.{nat_tests}
use Rattle.std.proofs.lemmas.Slice.Eq.{bytes_eq-Decides}
use Rattle.tl_html_print.proofs.PageReads.{listed}
use Rattle.tl_spec.specs.Lex.ByteClass.{is_void}
use Rattle.tl_html_spec.specs.Balanced.{is_scope}
use Rattle.tl_tree_spec.specs.Builder.{Mode, is_flow, mode_by, mode_of, within}
use Rattle.tl_tree_spec.specs.Groups.{Group, a_format, group, is_column_group, is_column_group_group, is_description, is_description_group, is_heading, is_heading_group, is_implied, is_implied_group, is_item, is_item_group, is_paragraph, is_paragraph_group, is_row, is_row_group, is_table, is_table_body, is_table_body_group, is_table_group}
use Rattle.tl_tree_spec.specs.HtmlTreeBuilder.{is_rtc}
use Rattle.tl_tree_spec.specs.Stays.{directly_in, in_p, in_ruby, is_alone, is_mark, is_mark_group, is_preformatted, stands, surely_ends}
use Rattle.tl_safe_fit.specs.Kinds
use Rattle.tl_safe_fit.specs.Kinds.{kind_of}
use Rattle.tl_safe_fit.specs.Levels.{has_room, level_rooms, most_open, outermost_path, path_inside}
use Rattle.tl_safe_fit.specs.Words.{is_among}
use Rattle.tl_safe_fit.specs.declared.kinds.Kind.{Kind}
use Rattle.tl_safe_fit.specs.declared.kinds.Kind.TheVariants.{Paragraph, Block, LooseBlock, Heading, Preformatted, Item, Description, Anchor, Nobr, Void, Rule, RubyBase, RubyTextContainer, RubyText, Ruby, Table, Caption, ColumnGroup, Column, TableBody, Row, Cell, Other}
use Rattle.tl_safe_fit.specs.declared.levels.Path.{Path}
use Rattle.tl_safe_fit.specs.declared.levels.Rooms.{Rooms}
use Rattle.tl_tree_safe.proofs.KindFacts.{IsKind, group_of, kind-IsKind, plain_group}
use Rattle.tl_tree_safe.specs.Fitted.{is_read}
use Rattle.tl_tree_safe.specs.Inner.Levels.{level_of, names_of, no_parts}
use Rattle.tl_tree_safe.specs.Lists.{ListedWords, is_plain_name, lists_plain_names, opaque_names, structural_names}

-- What is asked of a group

abbrev traits : Group → List Bool
traits g =
    is_paragraph_group g ∷ is_heading_group g ∷ is_item_group g ∷ is_description_group g ∷ is_implied_group g
    ∷ is_table_group g ∷ is_column_group_group g ∷ is_table_body_group g ∷ is_row_group g ∷ is_mark_group g
    ∷ is_preformatted g ∷ is_alone g ∷ []

abbrev kind_traits : Kind → List Bool
kind_traits k =
    Kinds.is_paragraph k ∷ Kinds.is_heading k ∷ Kinds.is_item k ∷ Kinds.is_description k ∷ Kinds.is_implied k
    ∷ Kinds.is_table k ∷ Kinds.is_column_group k ∷ Kinds.is_table_body k ∷ Kinds.is_row k ∷ Kinds.is_mark k
    ∷ Kinds.is_preformatted k ∷ Kinds.is_void_kind k ∷ []

traits-plain : (g : Group) → traits g ≡ traits (plain_group g)
traits-plain a_format = refl
traits-plain _ = refl

traits-kind : (k : Kind) → traits (group_of k) ≡ kind_traits k
traits-kind Paragraph = refl
traits-kind _ = refl

flow-plain : (g : Group) (m : Mode) → is_flow (mode_by g m) ≡ is_flow (mode_by (plain_group g) m)
flow-plain a_format m = refl
flow-plain _ m = refl

flow-kind : (k : Kind) (m : Mode) → is_flow (mode_by (group_of k) m) ≡ Kinds.is_flow_inside k (is_flow m)
flow-kind Paragraph m = refl
flow-kind _ m = refl

stands-plain : (g : Group) (names : List (List ℕ)) (n : List ℕ) → stands g names n ≡ stands (plain_group g) names n
stands-plain a_format names n = refl
stands-plain _ names n = refl

in_container : (k : Kind) → (Kinds.is_implied k && not (Kinds.is_container k)) ≡ Kinds.is_implied_in_container k
in_container Paragraph = refl
in_container _ = refl

record Traits (n : List ℕ) (k : Kind) : Type 0 where
  paragraph : is_paragraph n ≡ Kinds.is_paragraph k
  heading : is_heading n ≡ Kinds.is_heading k
  item : is_item n ≡ Kinds.is_item k
  description : is_description n ≡ Kinds.is_description k
  implied : is_implied n ≡ Kinds.is_implied k
  table : is_table n ≡ Kinds.is_table k
  column_group : is_column_group n ≡ Kinds.is_column_group k
  table_body : is_table_body n ≡ Kinds.is_table_body k
  row : is_row n ≡ Kinds.is_row k
  mark : is_mark n ≡ Kinds.is_mark k
  preformatted : is_preformatted (group n) ≡ Kinds.is_preformatted k
  alone : is_alone (group n) ≡ Kinds.is_void_kind k

module _ (n : List ℕ) (k : Kind) (is : IsKind n k) where
  all-traits : traits (group n) ≡ kind_traits k
  all-traits = traits-plain (group n) ∙ ap traits is.group ∙ traits-kind k

  trait : (i : ℕ) → get_or (traits (group n)) i false ≡ get_or (kind_traits k) i false
  trait i = ap (λ (ts : List Bool). get_or ts i false) all-traits

  the-traits : Traits n k
  the-traits = record {
    paragraph = trait 0;
    heading = trait 1;
    item = trait 2;
    description = trait 3;
    implied = trait 4;
    table = trait 5;
    column_group = trait 6;
    table_body = trait 7;
    row = trait 8;
    mark = trait 9;
    preformatted = trait 10;
    alone = trait 11;
  }

-- Paths

record PathSays (names : List (List ℕ)) (path : Path) : Type 0 where
  flow : is_flow (mode_of names) ≡ path.flow
  paragraph : in_p names ≡ path.paragraph
  item : within is_item surely_ends names ≡ path.item
  description : within is_description surely_ends names ≡ path.description
  anchor : within (bytes_eq (codes "a")) is_mark names ≡ path.anchor
  nobr : within (bytes_eq (codes "nobr")) is_scope names ≡ path.nobr
  ruby : in_ruby names ≡ path.ruby
  heading : directly_in is_heading names ≡ Kinds.is_heading path.inner
  implied : directly_in is_implied names ≡ Kinds.is_implied path.inner
  implied_in : directly_in (λ m. is_implied m && not (is_rtc m)) names ≡ Kinds.is_implied_in_container path.inner
  table : directly_in is_table names ≡ Kinds.is_table path.inner
  column_group : directly_in is_column_group names ≡ Kinds.is_column_group path.inner
  table_body : directly_in is_table_body names ≡ Kinds.is_table_body path.inner
  row : directly_in is_row names ≡ Kinds.is_row path.inner

outermost-says : PathSays (names_of []) outermost_path
outermost-says = record { flow = refl; paragraph = refl; item = refl; description = refl; anchor = refl; nobr = refl; ruby = refl; heading = refl; implied = refl; implied_in = refl; table = refl; column_group = refl; table_body = refl; row = refl }

one_in : (a b c a' b' c' : Bool) → a ≡ a' → b ≡ b' → c ≡ c' → (a || (not b && c)) ≡ (a' || (not b' && c'))
one_in a b c a' b' c' e f g = ap (λ x. x || (not b && c)) e ∙ ap₂ (λ x y. a' || (not x && y)) f g

inside-says : (n : List ℕ) (k : Kind) (names : List (List ℕ)) (path : Path) → IsKind n k → PathSays names path → PathSays (n ∷ names) (path_inside path k)
inside-says n k names path is says =
    let t = the-traits n k is in
    record {
      flow = flow-plain (group n) (mode_of names) ∙ ap (λ g. is_flow (mode_by g (mode_of names))) is.group ∙ flow-kind k (mode_of names) ∙ ap (Kinds.is_flow_inside k) says.flow;
      paragraph = one_in _ _ _ _ _ _ t.paragraph is.button_scope says.paragraph;
      item = one_in _ _ _ _ _ _ t.item is.ends says.item;
      description = one_in _ _ _ _ _ _ t.description is.ends says.description;
      anchor = one_in _ _ _ _ _ _ is.anchor t.mark says.anchor;
      nobr = one_in _ _ _ _ _ _ is.nobr is.scope says.nobr;
      ruby = one_in _ _ _ _ _ _ is.ruby is.scope says.ruby;
      heading = t.heading;
      implied = t.implied;
      implied_in = ap₂ (λ a b. a && not b) t.implied is.container ∙ in_container k;
      table = t.table;
      column_group = t.column_group;
      table_body = t.table_body;
      row = t.row;
    }

-- Depth

names-length : (around : List (List ℕ)) → length (names_of around) ≡ suc (length around)
names-length [] = refl
names-length (n ∷ around) = ap suc (names-length around)

left-of : (around : List (List ℕ)) → (level_of around).left ≡ most_open - length around
left-of [] = refl
left-of (n ∷ around) = ap (λ l. l - 1) (left-of around) ∙ less-one (length around)
  where
    less-one : (l : ℕ) → most_open - l - 1 ≡ most_open - suc l
    less-one l = omega arith

first_left : (l : ℕ) → nat_le (suc l) most_open ≡ nat_lt 0 (most_open - l)
first_left l = grind (arith, nat_tests)

-- Room here

alone-fits : (v a : Bool) (x : Bool) → v ≡ x → a ≡ x → (if v then a else not a) ≡ true
alone-fits v a true e f = ap₂ (λ y z. if y then z else not z) e f
alone-fits v a false e f = ap₂ (λ y z. if y then z else not z) e f

module _ (n : List ℕ) (k : Kind) (is : IsKind n k) where
  stands-at : (names : List (List ℕ)) → stands (group n) names n ≡ stands (group_of k) names n
  stands-at names = stands-plain (group n) names n ∙ ap (λ g. stands g names n) is.group

  read-at : (names : List (List ℕ)) → is_read names n ≡ ((stands (group_of k) names n && true) && nat_le (length names) most_open)
  read-at names = ap₂ (λ x y. x && y && nat_le (length names) most_open) (stands-at names)
      (alone-fits (is_void n) (is_alone (group n)) (Kinds.is_void_kind k) is.void (the-traits n k is).alone)

-- orders of tests

one_test : (f x o : Bool) → ((f && x) && true && o) ≡ ((f && o) && x)
one_test true true true = refl
one_test true true false = refl
one_test true false true = refl
one_test true false false = refl
one_test false x o = refl

no_test : (f o : Bool) → ((f && true) && true && o) ≡ (f && o)
no_test true o = refl
no_test false o = refl

two_tests : (f x y o : Bool) → ((f && (x && y)) && true && o) ≡ (((f && o) && x) && y)
two_tests true true y true = one_test true y true
two_tests true true y false = one_test true y false
two_tests true false y true = refl
two_tests true false y false = refl
two_tests false x y o = refl

turned_tests : (f x y o : Bool) → ((f && (x && y)) && true && o) ≡ (((f && o) && y) && x)
turned_tests true true true true = refl
turned_tests true true true false = refl
turned_tests true true false true = refl
turned_tests true true false false = refl
turned_tests true false true true = refl
turned_tests true false true false = refl
turned_tests true false false true = refl
turned_tests true false false false = refl
turned_tests false x y o = refl

in_part : (x o : Bool) → (x && true && o) ≡ (x && o)
in_part true o = refl
in_part false o = refl

or_none : (x : Bool) → (x || false) ≡ x
or_none true = refl
or_none false = refl

-- of parts of tables none is added
column_test : (x o t u : Bool) → (x && true && o) ≡ ((x && o) || (t && false && u))
column_test x o true u = in_part x o ∙ sym (or_none (x && o))
column_test x o false u = in_part x o ∙ sym (or_none (x && o))

cell_test : (x o b t u w : Bool) → (x && true && o) ≡ ((x && o) || (b && false && u) || (t && false && false && w))
cell_test x o b t u w = in_part x o ∙ sym (or_none (x && o)) ∙ ap (λ v. (x && o) || v) (sym (none b)) ∙ sym (or_none ((x && o) || (b && false && u))) ∙ ap (λ v. ((x && o) || (b && false && u)) || v) (sym (nothing t))
  where
    none : (c : Bool) → (c && false && u) ≡ false
    none true = refl
    none false = refl

    nothing : (c : Bool) → (c && false && false && w) ≡ false
    nothing true = refl
    nothing false = refl

module _ (n : List ℕ) (around : List (List ℕ)) (path : Path) (says : PathSays (names_of around) path) (left : ℕ) (is-left : left ≡ most_open - length around) where
  first : nat_le (length (names_of around)) most_open ≡ nat_lt 0 left
  first = ap (λ l. nat_le l most_open) (names-length around) ∙ first_left (length around) ∙ ap (λ l. nat_lt 0 l) (sym is-left)

  read-here : (k : Kind) → IsKind n k → is_read (names_of around) n ≡ (stands (group_of k) (names_of around) n && true && nat_lt 0 left)
  read-here k is = read-at n k is (names_of around) ∙ ap (λ c. stands (group_of k) (names_of around) n && true && c) first

  -- each kind

  flow-fits : (g : Bool) → is_flow (mode_of (names_of around)) ≡ g → is_read (names_of around) n ≡ ((is_flow (mode_of (names_of around)) && true) && true && nat_lt 0 left) →
      is_read (names_of around) n ≡ (g && nat_lt 0 left)
  flow-fits g e r = r ∙ ap (λ f. (f && true) && true && nat_lt 0 left) e ∙ no_test g (nat_lt 0 left)

  block-fits : is_read (names_of around) n ≡ ((is_flow (mode_of (names_of around)) && not (in_p (names_of around))) && true && nat_lt 0 left) →
      is_read (names_of around) n ≡ ((path.flow && nat_lt 0 left) && not path.paragraph)
  block-fits r = r ∙ ap₂ (λ f x. (f && not x) && true && nat_lt 0 left) says.flow says.paragraph ∙ one_test path.flow (not path.paragraph) (nat_lt 0 left)

  part-fits : is_read (names_of around) n ≡ (directly_in is_table (names_of around) && true && nat_lt 0 left) → is_read (names_of around) n ≡ (Kinds.is_table path.inner && nat_lt 0 left)
  part-fits r = r ∙ ap (λ x. x && true && nat_lt 0 left) says.table ∙ in_part (Kinds.is_table path.inner) (nat_lt 0 left)

  ruby-base-fits : is_read (names_of around) n ≡ ((is_flow (mode_of (names_of around)) && (not (in_ruby (names_of around)) || not (directly_in is_implied (names_of around)))) && true && nat_lt 0 left) →
      is_read (names_of around) n ≡ ((path.flow && nat_lt 0 left) && (not path.ruby || not (Kinds.is_implied path.inner)))
  ruby-base-fits r =
      r ∙ ap₂ (λ f x. (f && (not x || not (directly_in is_implied (names_of around)))) && true && nat_lt 0 left) says.flow says.ruby
      ∙ ap (λ y. (path.flow && (not path.ruby || not y)) && true && nat_lt 0 left) says.implied
      ∙ one_test path.flow (not path.ruby || not (Kinds.is_implied path.inner)) (nat_lt 0 left)

  fits-room : (k : Kind) → IsKind n k → is_read (names_of around) n ≡ has_room (level_rooms no_parts path left) k
  fits-room Paragraph is = block-fits (read-here Paragraph is)
  fits-room Block is = block-fits (read-here Block is)
  fits-room LooseBlock is = block-fits (read-here LooseBlock is)
  fits-room Preformatted is = block-fits (read-here Preformatted is)
  fits-room Rule is = block-fits (read-here Rule is)
  fits-room Table is = block-fits (read-here Table is)
  fits-room Heading is =
      read-here Heading is
      ∙ ap₂ (λ f x. (f && (not x && not (directly_in is_heading (names_of around)))) && true && nat_lt 0 left) says.flow says.paragraph
      ∙ ap (λ y. (path.flow && (not path.paragraph && not y)) && true && nat_lt 0 left) says.heading
      ∙ two_tests path.flow (not path.paragraph) (not (Kinds.is_heading path.inner)) (nat_lt 0 left)
  fits-room Item is =
      read-here Item is
      ∙ ap₂ (λ f x. (f && (not (within is_item surely_ends (names_of around)) && not x)) && true && nat_lt 0 left) says.flow says.paragraph
      ∙ ap (λ y. (path.flow && (not y && not path.paragraph)) && true && nat_lt 0 left) says.item
      ∙ turned_tests path.flow (not path.item) (not path.paragraph) (nat_lt 0 left)
  fits-room Description is =
      read-here Description is
      ∙ ap₂ (λ f x. (f && (not (within is_description surely_ends (names_of around)) && not x)) && true && nat_lt 0 left) says.flow says.paragraph
      ∙ ap (λ y. (path.flow && (not y && not path.paragraph)) && true && nat_lt 0 left) says.description
      ∙ turned_tests path.flow (not path.description) (not path.paragraph) (nat_lt 0 left)
  fits-room Anchor is =
      let name : codes "a" ≡ n = (bytes_eq-Decides (codes "a") n).0 is.anchor in
      read-here Anchor is
      ∙ ap₂ (λ f (m : List ℕ). (f && not (within (bytes_eq m) is_mark (names_of around))) && true && nat_lt 0 left) says.flow (sym name)
      ∙ ap (λ x. (path.flow && not x) && true && nat_lt 0 left) says.anchor
      ∙ one_test path.flow (not path.anchor) (nat_lt 0 left)
  fits-room Nobr is =
      let name : codes "nobr" ≡ n = (bytes_eq-Decides (codes "nobr") n).0 is.nobr in
      read-here Nobr is
      ∙ ap₂ (λ f (m : List ℕ). (f && not (within (bytes_eq m) is_scope (names_of around))) && true && nat_lt 0 left) says.flow (sym name)
      ∙ ap (λ x. (path.flow && not x) && true && nat_lt 0 left) says.nobr
      ∙ one_test path.flow (not path.nobr) (nat_lt 0 left)
  fits-room RubyBase is = ruby-base-fits (read-here RubyBase is)
  fits-room RubyTextContainer is = ruby-base-fits (read-here RubyTextContainer is)
  fits-room RubyText is =
      read-here RubyText is
      ∙ ap₂ (λ f x. (f && (not x || not (directly_in (λ m. is_implied m && not (is_rtc m)) (names_of around)))) && true && nat_lt 0 left) says.flow says.ruby
      ∙ ap (λ y. (path.flow && (not path.ruby || not y)) && true && nat_lt 0 left) says.implied_in
      ∙ one_test path.flow (not path.ruby || not (Kinds.is_implied_in_container path.inner)) (nat_lt 0 left)
  fits-room Void is = flow-fits path.flow says.flow (read-here Void is)
  fits-room Ruby is = flow-fits path.flow says.flow (read-here Ruby is)
  fits-room Other is = flow-fits path.flow says.flow (read-here Other is)
  fits-room Caption is = part-fits (read-here Caption is)
  fits-room ColumnGroup is = part-fits (read-here ColumnGroup is)
  fits-room TableBody is = part-fits (read-here TableBody is)
  fits-room Column is = read-here Column is ∙ ap (λ x. x && true && nat_lt 0 left) says.column_group ∙ column_test (Kinds.is_column_group path.inner) (nat_lt 0 left) (Kinds.is_table path.inner) (nat_lt 1 left)
  fits-room Row is = read-here Row is ∙ ap (λ x. x && true && nat_lt 0 left) says.table_body ∙ column_test (Kinds.is_table_body path.inner) (nat_lt 0 left) (Kinds.is_table path.inner) (nat_lt 1 left)
  fits-room Cell is = read-here Cell is ∙ ap (λ x. x && true && nat_lt 0 left) says.row ∙ cell_test (Kinds.is_row path.inner) (nat_lt 0 left) (Kinds.is_table_body path.inner) (Kinds.is_table path.inner) (nat_lt 1 left) (nat_lt 2 left)

-- open elements of listed names
abbrev pub AreListed : ListedWords → List (List ℕ) → Type 0
AreListed p [] = ⊤
AreListed p (n ∷ around) = (is_among p.tags n ≡ true) × AreListed p around

module _ (p : ListedWords) (plain : lists_plain_names p ≡ true) where
  listed-kind : (n : List ℕ) → is_among p.tags n ≡ true → IsKind n (kind_of n)
  listed-kind n h =
      let q = and_parts (not (is_among opaque_names n)) (not (is_among structural_names n)) (listed is_plain_name p.tags n plain h) in
      kind-IsKind n (not-true (is_among opaque_names n) q.0) (not-true (is_among structural_names n) q.1)

  level-says : (around : List (List ℕ)) → AreListed p around → PathSays (names_of around) (level_of around).path
  level-says [] h = outermost-says
  level-says (n ∷ around) h =
      inside-says n (kind_of n) (names_of around) (level_of around).path (listed-kind n h.0) (level-says around h.1)

  here-rooms : (around : List (List ℕ)) → (level_of around).here ≡ level_rooms no_parts (level_of around).path (level_of around).left
  here-rooms [] = refl
  here-rooms (n ∷ around) = refl

  -- a listed tag is read where its kind has room
  pub room_read : (around : List (List ℕ)) (n : List ℕ) → AreListed p around → is_among p.tags n ≡ true → has_room (level_of around).here (kind_of n) ≡ is_read (names_of around) n
  room_read around n h listed =
      ap (λ (r : Rooms). has_room r (kind_of n)) (here-rooms around)
      ∙ sym (fits-room n around (level_of around).path (level-says around h) (level_of around).left (left-of around) (kind_of n) (listed-kind n listed))

  -- a listed name is void as its kind is, and drops a line feed
  pub void_kind : (n : List ℕ) → is_among p.tags n ≡ true → is_void n ≡ Kinds.is_void_kind (kind_of n)
  void_kind n h = (listed-kind n h).void

  pub preformatted_kind : (n : List ℕ) → is_among p.tags n ≡ true → is_preformatted (group n) ≡ Kinds.is_preformatted (kind_of n)
  preformatted_kind n h = (the-traits n (kind_of n) (listed-kind n h)).preformatted

  pub flow_level : (around : List (List ℕ)) → AreListed p around → is_flow (mode_of (names_of around)) ≡ (level_of around).path.flow
  flow_level around h = (level-says around h).flow
