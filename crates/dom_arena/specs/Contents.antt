-- What a node is, as the tree has it, as its slot holds it and as a new node says it.
use Rattle.std.specs.Prelude.{ℕ, Bool, true, false, List, map}
use Rattle.page_tree.specs.Forest.{Content, document, element, text, comment, Forest, empty, node}
use Rattle.dom_arena.specs.declared.kinds.NodeKind.{NodeKind}
use Rattle.dom_arena.specs.declared.kinds.NodeKind.TheVariants.{Document as KindDocument, Element as KindElement, Text as KindText, Comment as KindComment}
use Rattle.dom_arena.specs.declared.kinds.NewNode.{NewNode}
use Rattle.dom_arena.specs.declared.kinds.NewNode.TheVariants.{Element as NewElement, Text as NewText, Comment as NewComment}
use Rattle.dom_arena.specs.declared.kinds.Payload.{Payload}
use Rattle.dom_arena.specs.declared.kinds.Payload.TheVariants.{Free, Document, Element, Text, Comment}

-- what a node's slot holds
abbrev pub payload_of : Content → Payload
payload_of document = Document
payload_of (element name attrs) = Element name attrs
payload_of (text bytes) = Text bytes
payload_of (comment bytes) = Comment bytes

-- what the node of a slot is
abbrev pub content_of : Payload → Content
content_of Free = document
content_of Document = document
content_of (Element name attrs) = element name attrs
content_of (Text bytes) = text bytes
content_of (Comment bytes) = comment bytes

-- whether a node may have children, by what its slot holds
abbrev pub may_hold : Payload → Bool
may_hold Free = false
may_hold Document = true
may_hold (Element name attrs) = true
may_hold (Text bytes) = false
may_hold (Comment bytes) = false

-- whether a slot holds a text
abbrev pub holds_text : Payload → Bool
holds_text Free = false
holds_text Document = false
holds_text (Element name attrs) = false
holds_text (Text bytes) = true
holds_text (Comment bytes) = false

-- the kind of a node
abbrev pub kind_of : Content → NodeKind
kind_of document = KindDocument
kind_of (element name attrs) = KindElement
kind_of (text bytes) = KindText
kind_of (comment bytes) = KindComment

-- what a new node is
abbrev pub new_content : NewNode → Content
new_content (NewElement name attrs) = element name attrs
new_content (NewText bytes) = text bytes
new_content (NewComment bytes) = comment bytes

-- the nodes of a fragment, each with its depth
abbrev pub new_nodes : List (ℕ × NewNode) → List (ℕ × Content)
new_nodes part = map (λ (n : ℕ × NewNode). (n.0, new_content n.1)) part

-- a new node by itself, under its number
abbrev pub single : ℕ → NewNode → Forest
single n new = node n (new_content new) empty empty
