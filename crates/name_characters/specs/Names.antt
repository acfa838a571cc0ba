-- Which characters begin a name, and which continue one. A character is its code.
use Rattle.std.specs.Prelude.{ℕ, Bool, ◌||◌, ◌==◌, nat_lt, if◌then◌else◌}
use Rattle.std.specs.Char.{is_ascii_alphabetic, is_ascii_alphanumeric}
use Rattle.unicode_ident.specs.Ident.{is_xid_start, is_xid_continue}

-- A name begins with an underscore or a character that begins identifiers, which of ASCII are the letters.
unfoldable pub starts_name : ℕ → Bool
starts_name c = if nat_lt c 128 then is_ascii_alphabetic c || c == 95 else is_xid_start c

-- It goes on with characters that go on identifiers, of ASCII letters, digits and underscores, and with quotes.
unfoldable pub goes_on_name : ℕ → Bool
goes_on_name c = if nat_lt c 128 then is_ascii_alphanumeric c || c == 95 || c == 39 else is_xid_continue c
