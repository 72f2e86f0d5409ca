-- A name as 16 bytes: its characters, and zeros behind them.
use Rattle.std.specs.Prelude.{◌≡◌, ℕ, ◌-◌, List, ◌++◌, length, take, replicate}
use Rattle.hq_text.specs.Names.{IsName}
use Rattle.hq_text.specs.declared.name.Name.TheInside.{Inside}

-- the name's characters, without the zeros behind them
abbrev pub written : Inside → List ℕ
written a = take a.len a.bytes

-- the 16 bytes that hold these characters, and how many characters there are
abbrev pub padded : List ℕ → Inside
padded name = record { bytes = name ++ replicate (16 - length name) 0; len = length name }

-- The first bytes, as many as the length says, are a name, and the rest of the 16 are zeros.
pub record Padded (a : Inside) : Type 0 where
  pub name : IsName (take a.len a.bytes)
  pub len : length (take a.len a.bytes) ≡ a.len
  pub zeros : a.bytes ≡ take a.len a.bytes ++ replicate (16 - a.len) 0

same : (bytes name : List ℕ) (n m : ℕ) → m ≡ n → bytes ≡ name ++ replicate (16 - n) 0
    → (let made : Inside = record {
      bytes = name ++ replicate
          (16 - m) 0;
      len = m;
    } in let whole : Inside = record { bytes = bytes; len = n } in made ≡ whole)
same bytes name n m e p = cc

pub padded_written : (a : Inside) → Padded a → padded (written a) ≡ a
padded_written a p = same a.bytes (take a.len a.bytes) a.len (length (take a.len a.bytes)) p.len p.zeros
