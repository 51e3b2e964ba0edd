-- The states of rest, as the code has them.
use Rattle.std.specs.Prelude.{ℕ, List, [], None, Option, Some, codes, flat_map, if◌then◌else◌}
use Rattle.std.specs.Char.{to_ascii_lowercase}
use Rattle.std.specs.Str.{bytes_eq, str_eq_ignore_ascii_case}
use Rattle.tl_html_spec.specs.HtmlTokenizer.{State, char_of, data_state, plaintext, raw, rawtext, rcdata, script_data, script_data_escaped, script_data_escaped_dash, script_data_escaped_dash_dash}
use Rattle.tl_html_tokens.specs.declared.mode.Mode.{Mode}
use Rattle.tl_html_tokens.specs.declared.mode.Mode.TheVariants.{Data, Title, Textarea, ContextText, Style, Xmp, Iframe, Noembed, Noframes, Noscript, Script, ScriptEscaped, ScriptEscapedDash, ScriptEscapedDashDash, Plaintext}

abbrev pub state_of : Mode → State
state_of Data = data_state
state_of Title = raw (rcdata (codes "title"))
state_of Textarea = raw (rcdata (codes "textarea"))
state_of ContextText = raw (rcdata [])
state_of Style = raw (rawtext (codes "style"))
state_of Xmp = raw (rawtext (codes "xmp"))
state_of Iframe = raw (rawtext (codes "iframe"))
state_of Noembed = raw (rawtext (codes "noembed"))
state_of Noframes = raw (rawtext (codes "noframes"))
state_of Noscript = raw (rawtext (codes "noscript"))
state_of Script = raw script_data
state_of ScriptEscaped = raw script_data_escaped
state_of ScriptEscapedDash = raw script_data_escaped_dash
state_of ScriptEscapedDashDash = raw script_data_escaped_dash_dash
state_of Plaintext = plaintext

-- the name of a tag, by its bytes
abbrev pub letters : List ℕ → List ℕ
letters word = flat_map (λ b. char_of (to_ascii_lowercase b)) word

-- after a start tag of this name, in any case
abbrev pub mode_after : List ℕ → Mode
mode_after name =
    if str_eq_ignore_ascii_case name (codes "title") then Title
    else if str_eq_ignore_ascii_case name (codes "textarea") then Textarea
    else if str_eq_ignore_ascii_case name (codes "style") then Style
    else if str_eq_ignore_ascii_case name (codes "xmp") then Xmp
    else if str_eq_ignore_ascii_case name (codes "iframe") then Iframe
    else if str_eq_ignore_ascii_case name (codes "noembed") then Noembed
    else if str_eq_ignore_ascii_case name (codes "noframes") then Noframes
    else if str_eq_ignore_ascii_case name (codes "script") then Script
    else if str_eq_ignore_ascii_case name (codes "plaintext") then Plaintext
    else Data

-- the same in an element whose text is raw, `noscript` too, as where scripts run
abbrev pub mode_inside : List ℕ → Mode
mode_inside name =
    if str_eq_ignore_ascii_case name (codes "noscript") then Noscript else mode_after name

-- of a text with references, by the name of the end tag that ends it; in a fragment that stands in
-- such a text none does
abbrev pub rcdata_mode : List ℕ → Option Mode
rcdata_mode name =
    if bytes_eq name (codes "title") then Some Title
    else if bytes_eq name (codes "textarea") then Some Textarea
    else if bytes_eq name [] then Some ContextText
    else None

-- of a text without them
abbrev pub rawtext_mode : List ℕ → Option Mode
rawtext_mode name =
    if bytes_eq name (codes "style") then Some Style
    else if bytes_eq name (codes "xmp") then Some Xmp
    else if bytes_eq name (codes "iframe") then Some Iframe
    else if bytes_eq name (codes "noembed") then Some Noembed
    else if bytes_eq name (codes "noframes") then Some Noframes
    else if bytes_eq name (codes "noscript") then Some Noscript
    else None

-- the name of the end tag that ends such a text
abbrev pub own_name : Mode → List ℕ
own_name Data = []
own_name Title = codes "title"
own_name Textarea = codes "textarea"
own_name ContextText = []
own_name Style = codes "style"
own_name Xmp = codes "xmp"
own_name Iframe = codes "iframe"
own_name Noembed = codes "noembed"
own_name Noframes = codes "noframes"
own_name Noscript = codes "noscript"
own_name Script = codes "script"
own_name ScriptEscaped = codes "script"
own_name ScriptEscapedDash = codes "script"
own_name ScriptEscapedDashDash = codes "script"
own_name Plaintext = []
