-- The tables of elements, by their names in lower case.
use Rattle.std.specs.Prelude.{Bool, cond, not, ◌&&◌, ◌||◌, ℕ, List, [], ◌∷◌, codes}
use Rattle.html_meaning.specs.Bytes.{is_among}

-- void elements, which have no content (HTML, 13.1.2)
abbrev pub void_elements : List (List ℕ)
void_elements =
    codes "area" ∷ codes "base" ∷ codes "br" ∷ codes "col" ∷ codes "embed" ∷ codes "hr" ∷ codes "img" ∷ codes "input"
    ∷ codes "link" ∷ codes "meta" ∷ codes "param" ∷ codes "source" ∷ codes "track" ∷ codes "wbr" ∷ []

-- elements of SVG that have no content where their start tag is self-closing (HTML, "foreign elements")
abbrev pub self_closing_elements : List (List ℕ)
self_closing_elements =
    codes "animate" ∷ codes "animatemotion" ∷ codes "animatetransform" ∷ codes "circle" ∷ codes "clippath" ∷ codes "defs"
    ∷ codes "ellipse" ∷ codes "feblend" ∷ codes "fecolormatrix" ∷ codes "fecomposite" ∷ codes "feflood"
    ∷ codes "fegaussianblur" ∷ codes "femerge" ∷ codes "femergenode" ∷ codes "feoffset" ∷ codes "filter" ∷ codes "g"
    ∷ codes "image" ∷ codes "line" ∷ codes "lineargradient" ∷ codes "mask" ∷ codes "mpath" ∷ codes "path"
    ∷ codes "pattern" ∷ codes "polygon" ∷ codes "polyline" ∷ codes "radialgradient" ∷ codes "rect" ∷ codes "set"
    ∷ codes "stop" ∷ codes "symbol" ∷ codes "text" ∷ codes "tspan" ∷ codes "use" ∷ codes "view" ∷ []

-- raw text elements: their text is kept as it is
abbrev pub raw_text_elements : List (List ℕ)
raw_text_elements = codes "script" ∷ codes "style" ∷ []

-- escapable raw text elements: in their text character references count
abbrev pub escapable_raw_text_elements : List (List ℕ)
escapable_raw_text_elements = codes "textarea" ∷ codes "title" ∷ []

-- up to its own end tag an element of this name has text alone
abbrev pub holds_raw_text : List ℕ → Bool
holds_raw_text name = is_among name raw_text_elements || is_among name escapable_raw_text_elements

-- elements before which a paragraph ends
abbrev pub paragraph_enders : List (List ℕ)
paragraph_enders =
    codes "address" ∷ codes "article" ∷ codes "aside" ∷ codes "blockquote" ∷ codes "div" ∷ codes "dl" ∷ codes "fieldset"
    ∷ codes "figure" ∷ codes "footer" ∷ codes "form" ∷ codes "h1" ∷ codes "h2" ∷ codes "h3" ∷ codes "h4" ∷ codes "h5"
    ∷ codes "h6" ∷ codes "header" ∷ codes "hr" ∷ codes "main" ∷ codes "nav" ∷ codes "ol" ∷ codes "p" ∷ codes "pre"
    ∷ codes "section" ∷ codes "table" ∷ codes "ul" ∷ []

-- the implied end tags of a start tag of this name: the elements that it closes where they stand innermost (HTML, 13.1.2.4)
abbrev pub implied_ends : List ℕ → List (List ℕ)
implied_ends name =
    cond (is_among name paragraph_enders) (codes "p" ∷ [])
    (cond (is_among name (codes "li" ∷ [])) (codes "p" ∷ codes "li" ∷ [])
    (cond (is_among name (codes "dt" ∷ codes "dd" ∷ [])) (codes "p" ∷ codes "dt" ∷ codes "dd" ∷ [])
    (cond (is_among name (codes "option" ∷ [])) (codes "option" ∷ [])
    (cond (is_among name (codes "optgroup" ∷ [])) (codes "option" ∷ codes "optgroup" ∷ [])
    (cond (is_among name (codes "td" ∷ codes "th" ∷ [])) (codes "p" ∷ codes "td" ∷ codes "th" ∷ [])
    (cond (is_among name (codes "tr" ∷ [])) (codes "p" ∷ codes "td" ∷ codes "th" ∷ codes "tr" ∷ [])
    (cond (is_among name (codes "thead" ∷ codes "tbody" ∷ codes "tfoot" ∷ []))
    (codes "p" ∷ codes "td" ∷ codes "th" ∷ codes "tr" ∷ codes "thead" ∷ codes "tbody" ∷ codes "tfoot" ∷ [])
    [])))))))

-- a start tag of this name, self-closing or not, has content behind it
abbrev pub has_content : List ℕ → Bool → Bool
has_content name self_closing = not (is_among name void_elements) && not (self_closing && is_among name self_closing_elements)
