-- What a contract sees of a tag.
use Rattle.std.specs.Prelude.{ℕ, [], false, refl}
use Rattle.std.specs.Coded.{Coded, code_by, coded×, coded_ℕ}
use Rattle.tl_spec.specs.Tree.Inline.{InlineVec}
use Rattle.tl_inline.specs.InlineVec.{inline_vec_code}

pub record Tag (A B : Type 0) : Type 0 where
  pub name : B
  pub attributes : A
  pub children : InlineVec ℕ
  pub raw : B
  pub start : ℕ

abbrev pub tag_code : {A B : Type 0} → Coded A → Coded B → Coded (Tag A B)
tag_code {A} {B} attributes code =
    code_by (B × (A × (InlineVec ℕ × (B × ℕ))))
    (coded× code (coded× attributes (coded× (inline_vec_code coded_ℕ) (coded× code coded_ℕ))))
    (λ t. (t.name, (t.attributes, (t.children, (t.raw, t.start)))))
    (λ p. record {
      name = p.0;
      attributes = p.1.0;
      children = p.1.1.0;
      raw = p.1.1.1.0;
      start = p.1.1.1.1;
    }) (λ _. refl)

-- a tag without children
abbrev pub childless : {A B : Type 0} → B → A → B → ℕ → Tag A B
childless name attributes raw start = record {
  name = name;
  attributes = attributes;
  children = record { items = []; on_heap = false };
  raw = raw;
  start = start;
}
