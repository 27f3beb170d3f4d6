-- What a page has of its address.
use Rattle.std.specs.Prelude.{ℕ, ◌==◌, ◌-◌, List, length, take, slice_index, if◌then◌else◌}
use Rattle.url.specs.Parts.{Parts, host_or_empty, text_between}
use Rattle.url.specs.Host.{host_text}
use Rattle.url.specs.declared.slicing.Position.TheVariants.{BeforeScheme, BeforeHost, AfterHost, BeforePath, AfterQuery}
use Rattle.address_patterns.specs.declared.page.Page.{Page}

-- a name without one dot at its end
abbrev pub without_dot : List ℕ → List ℕ
without_dot name = if slice_index name (length name - 1) == 46 then take (length name - 1) name else name

-- the host as an address prints it; empty where the address has none
abbrev pub host_in : Parts → List ℕ
host_in url = host_text (host_or_empty url)

-- a place in the address, 0 where it has no host
abbrev pub host_place : Parts → ℕ → ℕ
host_place url place = if length (host_in url) == 0 then 0 else place

-- the page of an address
abbrev pub page_of : Parts → Page
page_of url = record {
  address = text_between url BeforeScheme AfterQuery;
  host = without_dot (host_in url);
  host_from = host_place url (length (text_between url BeforeScheme BeforeHost));
  host_to = host_place url (length (text_between url BeforeScheme AfterHost));
  path = text_between url BeforePath AfterQuery;
}
