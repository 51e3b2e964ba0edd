-- Elements of `svg` and `math`: their names and attributes as they are adjusted (13.2.6.1).
use Rattle.std.specs.Char.{to_ascii_lowercase}
use Rattle.std.specs.Prelude.{Bool, List, [], codes, drop, if◌then◌else◌, map, ℕ, ◌∷◌}
use Rattle.std.specs.Str.{bytes_eq}
use Rattle.tl_html_spec.specs.Balanced.{is_one_of, words}
use Rattle.tl_dom_spec.specs.Tags.{Attribute, Namespace, Tag, html_space, math_space, svg_space, xlink_space, xml_space, xmlns_space}
use Rattle.tl_dom_spec.specs.Builder.{Builder, insert_and_pop, insert_element}

abbrev pub svg_names : List ℕ
svg_names =
    codes "altGlyph altGlyphDef altGlyphItem animateColor animateMotion animateTransform clipPath feBlend feColorMatrix feComponentTransfer feComposite feConvolveMatrix feDiffuseLighting feDisplacementMap feDistantLight feDropShadow feFlood feFuncA feFuncB feFuncG feFuncR feGaussianBlur feImage feMerge feMergeNode feMorphology feOffset fePointLight feSpecularLighting feSpotLight feTile feTurbulence foreignObject glyphRef linearGradient radialGradient textPath"

abbrev pub svg_keys : List ℕ
svg_keys =
    codes "attributeName attributeType baseFrequency baseProfile calcMode clipPathUnits diffuseConstant edgeMode filterUnits glyphRef gradientTransform gradientUnits kernelMatrix kernelUnitLength keyPoints keySplines keyTimes lengthAdjust limitingConeAngle markerHeight markerUnits markerWidth maskContentUnits maskUnits numOctaves pathLength patternContentUnits patternTransform patternUnits pointsAtX pointsAtY pointsAtZ preserveAlpha preserveAspectRatio primitiveUnits refX refY repeatCount repeatDur requiredExtensions requiredFeatures specularConstant specularExponent spreadMethod startOffset stdDeviation stitchTiles surfaceScale systemLanguage tableValues targetX targetY textLength viewBox viewTarget xChannelSelector yChannelSelector zoomAndPan"

-- one of these words that differs in case alone
abbrev pub cased : List ℕ → List (List ℕ) → List ℕ
cased name [] = name
cased name (word ∷ words) =
    if bytes_eq name (map to_ascii_lowercase word) then word else cased name words

abbrev pub foreign_name : Namespace → List ℕ → List ℕ
foreign_name svg_space name = cased name (words svg_names)
foreign_name space name = name

abbrev pub foreign_key : Namespace → List ℕ → List ℕ
foreign_key svg_space key = cased key (words svg_keys)
foreign_key math_space key = cased key (codes "definitionURL" ∷ [])
foreign_key html_space key = key

-- a key with a prefix is in the namespace of it
abbrev pub prefixed : Attribute → Attribute
prefixed a =
    if bytes_eq a.key (codes "xmlns") then record a { space = xmlns_space }
    else if bytes_eq a.key (codes "xmlns:xlink")
    then record a { space = xmlns_space; key = codes "xlink" }
    else if bytes_eq a.key (codes "xml:lang") then record a { space = xml_space; key = codes "lang" }
    else if bytes_eq a.key (codes "xml:space")
    then record a { space = xml_space; key = codes "space" }
    else if is_one_of
    (codes "xlink:actuate xlink:arcrole xlink:href xlink:role xlink:show xlink:title xlink:type") a.key
    then record a { space = xlink_space; key = drop 6 a.key }
    else a

abbrev pub foreign_attribute : Namespace → Attribute → Attribute
foreign_attribute space a = prefixed (record a { key = foreign_key space a.key })

-- an element of a namespace is inserted, and popped at once with the self-closing flag
abbrev pub foreign_tag : Namespace → Tag → Tag
foreign_tag space t = record {
  space = space;
  name = t.name;
  attributes = map (foreign_attribute space) t.attributes;
  source = t.source;
}

abbrev pub insert_foreign_element : Namespace → Tag → Bool → Builder → Builder
insert_foreign_element space t closes b =
    if closes then insert_and_pop (foreign_tag space t) b
    else insert_element (foreign_tag space t) b
