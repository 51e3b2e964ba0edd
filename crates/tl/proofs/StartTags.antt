-- The tag that is made of a start tag.
use Rattle.std.proofs.Common.{◌≡◌, ℕ, ◌-◌, List, [], take, drop, ap, ◌∙◌}
use Rattle.tl_spec.specs.Lex.Attribute.{Pair, attributes}
use Rattle.tl_spec.specs.Lex.AttributeList.{Attributes, attributes_of}
use Rattle.tl_spec.specs.Lex.Token.{Token, token_after_attributes}
use Rattle.tl_spec.specs.Tree.Document.{TagNode, held_items, tag_node}
use Rattle.tl_lexer.specs.TokenMeaning.{ended, start_tag_of}
use Rattle.tl_lexer.specs.declared.tag.TagEnd.{TagEnd}
use Rattle.tl.specs.Builder.{read_of}

module _ (t name : List ℕ) (at after : ℕ) (attrs : Attributes (List ℕ))
    (read : ◌≡◌ {A = Attributes (List ℕ) × List ℕ} (attrs, drop after t) (read_of (attributes (drop at t)))) where
  -- the tag that was made of a start tag
  pub tag-made : (start end : ℕ) (tag : TagNode)
      → tag ≡ record { name = name; attributes = attrs; children = held_items []; raw = take (end - start) (drop start t); start = start }
      → tag ≡ tag_node t (record { name = name; attributes = attributes_of (attributes (drop at t)).0; from = start; to = end }) []
  tag-made start end tag is =
      let kept = ap (λ (r : Attributes (List ℕ) × List ℕ). r.0) read in
      is ∙ (λ i. record { name = name; attributes = kept i; children = held_items []; raw = take (end - start) (drop start t); start = start })

  -- how it ends, by how what stands after its attributes does
  pub tag-ends : (kind : TagEnd) (end : ℕ)
      → ((name : List ℕ) (pairs : List Pair) → ◌≡◌ {A = Token × List ℕ} (ended name pairs kind, drop end t) (token_after_attributes name pairs (drop after t)))
      → ◌≡◌ {A = Token × List ℕ} (ended name (attributes (drop at t)).0 kind, drop end t) (start_tag_of name (drop at t))
  tag-ends kind end ends =
      let left : drop after t ≡ (attributes (drop at t)).1 = ap (λ (r : Attributes (List ℕ) × List ℕ). r.1) read in
      ends name (attributes (drop at t)).0 ∙ ap (token_after_attributes name (attributes (drop at t)).0) left
