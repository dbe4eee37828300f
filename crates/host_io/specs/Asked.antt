-- What `main` itself does by the words of `serve`.
use Rattle.std.specs.Prelude.{◌≡◌, ℕ, List, Option, Some, None}
use Rattle.std.specs.declared.net.ip_addr.IpAddr.{IpAddr}
use Rattle.host_io.specs.Tcp.{IsLocal}
use Rattle.host_words.specs.Address.{IsAddress, IsNoAddress, address_text}
use Rattle.host_words.specs.Commands.{IsFor}
use Rattle.host_words.specs.Window.{window_words}
use Rattle.host_words.specs.declared.command.CommandName.TheVariants.{Serve}
use Rattle.host_words.specs.declared.window.WindowWords.{WindowWords}
use Rattle.host_io.specs.declared.window.Window.{Window}
use Rattle.host_catalogue.specs.declared.ending.CommandEnd.{CommandEnd}
use Rattle.host_catalogue.specs.declared.ending.CommandEnd.TheVariants.{WordsRefused, NoMemory}

-- the address that is said, or this machine's own where none is
abbrev pub IsSaid : Option IpAddr → IpAddr → Type 0
IsSaid (Some said) address = address ≡ said
IsSaid None address = IsLocal address

-- The address to listen at: for `serve` the one that its words say. Where they say none, and for all other words, it is
-- this machine's own.
pub record IsAskedAddress (words : List (List ℕ)) (address : IpAddr) : Type 0 where
  pub said : Option IpAddr
  pub serves : IsFor Serve words → IsAddress (address_text words) said
  pub other : (IsFor Serve words → ⊥) → said ≡ None
  pub is : IsSaid said address

-- how the command ends without one: the words of `serve` say a text that is none, or there was no memory
abbrev pub IsNotAsked : List (List ℕ) → CommandEnd → Type 0
IsNotAsked words WordsRefused = IsFor Serve words × IsNoAddress (address_text words)
IsNotAsked words NoMemory = Unit {0}
IsNotAsked words _ = ⊥

-- a window at the port that is said, or none where none is
abbrev pub IsWindowAt : Option WindowWords → Option Window → Type 0
IsWindowAt None None = Unit {0}
IsWindowAt None (Some window) = ⊥
IsWindowAt (Some said) None = ⊥
IsWindowAt (Some said) (Some window) = window.port ≡ said.port

-- The window to show: for `serve` the one that its words ask for, and for all other words none.
pub record IsAskedWindow (words : List (List ℕ)) (window : Option Window) : Type 0 where
  pub serves : IsFor Serve words → IsWindowAt (window_words words) window
  pub other : (IsFor Serve words → ⊥) → window ≡ None
