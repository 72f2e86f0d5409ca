-- The parts of lines, both ways: names, numbers, kernels, digits, sizes.
use Rattle.std.proofs.Common.{◌≡◌, ℕ, zero, suc, ◌*◌, ◌^◌, ◌≤◌, Bool, true, false, cond, eqb, List, [], ◌∷◌, length, Option, Some, None, refl, sym, ap, subst, ◌∙◌, arith}
use Rattle.std.specs.Prelude.{◌&&◌, ◌||◌, codes, Result, Ok, Err, nat_le}
use Rattle.std.specs.Str.{bytes_eq}
use Rattle.std.proofs.lemmas.Bool.{leb-true, le-leb, eqb-true}
use Rattle.std.specs.List.{list_any}
use Rattle.std.proofs.Math.Pow.{pow_mono}
use Rattle.hex.specs.Hex.{decode_of, decode_sized}
use Rattle.hex.specs.declared.error.FromHexError.{FromHexError}
use Rattle.hex.proofs.HexLemmas.{decode_sized-twice, decode_sized-ok}
use Rattle.hq_footprint.specs.declared.task.Code.{Code}
use Rattle.hq_footprint.specs.declared.task.Code.TheVariants as code
use Rattle.hq_text.specs.Names.{is_name, IsName}
use Rattle.hq_text.specs.Numbers.{IsNumber, number_of}
use Rattle.hq_text.proofs.NumberLaws.{number_only, number_tells}
use Rattle.hq_text.proofs.InTurn.{steps, ok_is, both, word_is, guarded}
use Rattle.hq_lines.specs.declared.fault.LineFault.{LineFault}
use Rattle.hq_lines.specs.declared.fault.LineFault.TheVariants as fault
use Rattle.hq_lines.specs.Says.{IsWithin, Spells, Codes, fill, copy, rev, xor, add, sum, IsPower}
use Rattle.hq_lines.specs.Order.{within, decoded, decoded_some, name_said, ranged, code_said, sized_said, some_said, short_said, is_power, size_said, extent_said}

pub name_ok : (word n : List ℕ) → name_said word ≡ Ok n → IsName word × (word ≡ n)
unfolding name_said
name_ok word n e = guarded (is_name word) word n fault.Word e

pub name_is : (word : List ℕ) → IsName word → name_said word ≡ Ok word
unfolding name_said
name_is word h = rw h refl

pub ranged_ok : (low high : ℕ) (word : List ℕ) (n : ℕ) → ranged low high word ≡ Ok n → IsWithin low high word n
unfolding ranged
ranged_ok low high word n e = by (number_of word) refl e where
  by : (o : Option ℕ) → o ≡ number_of word → within low high o ≡ Ok n → IsWithin low high word n
  by None is e = absurd cc
  by (Some k) is e =
      let g = guarded (nat_le low k && nat_le k high) k n fault.Number e in
      let t = both (nat_le low k) (nat_le k high) g.0 in
      let same = g.1 in
      record {
        number = subst (λ (m : ℕ). IsNumber word m) same (number_tells word (Some k) is);
        from = let le = leb-true low k t.0 in omega arith;
        upto = let le = leb-true k high t.1 in omega arith;
      }

pub ranged_is : (low high : ℕ) (word : List ℕ) (n : ℕ) → IsWithin low high word n → ranged low high word ≡ Ok n
unfolding ranged
ranged_is low high word n h = rw (number_only word n h.number, le-leb low n h.from, le-leb n high h.upto) refl

code_step : (word w : List ℕ) (x y : Code) (rest : Result Code LineFault) → Codes w x → (rest ≡ Ok y → Codes word y) → cond (bytes_eq word w) (Ok x) rest ≡ Ok y → Codes word y
code_step word w x y rest this more e = by (bytes_eq word w) refl e where
  by : (b : Bool) → bytes_eq word w ≡ b → cond b (Ok x) rest ≡ Ok y → Codes word y
  by true is e = subst (λ (v : List ℕ). Codes v y) (sym (word_is word w is)) (let same : x ≡ y = cc in subst (λ (k : Code). Codes w k) same this)
  by false is e = more e

pub code_ok : (word : List ℕ) (c : Code) → code_said word ≡ Ok c → Codes word c
unfolding code_said
code_ok word c e =
    code_step word (codes "fill") code.Fill c _ fill
    (code_step word (codes "copy") code.Copy c _ copy
    (code_step word (codes "rev") code.Rev c _ rev
    (code_step word (codes "xor") code.Xor c _ xor
    (code_step word (codes "add") code.Add c _ add
    (code_step word (codes "sum") code.Sum c _ sum (λ h. absurd cc))))))
    e

pub code_is : (word : List ℕ) (c : Code) → Codes word c → code_said word ≡ Ok c
unfolding code_said
code_is w c fill = refl
code_is w c copy = refl
code_is w c rev = refl
code_is w c xor = refl
code_is w c add = refl
code_is w c sum = refl

decoded_ok : (r : Result (List ℕ) FromHexError) (bytes : List ℕ) → decoded r ≡ Ok bytes → r ≡ Ok bytes
decoded_ok (Ok x) bytes e = cc
decoded_ok (Err f) bytes e = absurd cc

pub sized_ok : (len : ℕ) (word bytes : List ℕ) → sized_said len word ≡ Ok bytes → (length word ≡ 2 * len) × Spells word bytes
unfolding sized_said
sized_ok len word bytes e =
    let h = decoded_ok (decode_sized word len) bytes e in
    let two = decode_sized-ok word len bytes h in
    (two, sym (decode_sized-twice word len two) ∙ h)

pub sized_is : (len : ℕ) (word bytes : List ℕ) → length word ≡ 2 * len → Spells word bytes → sized_said len word ≡ Ok bytes
unfolding sized_said
sized_is len word bytes two h = rw (decode_sized-twice word len two, h) refl

decoded_some_ok : (r : Result (List ℕ) FromHexError) (bytes : List ℕ) → decoded_some r ≡ Ok bytes → (r ≡ Ok bytes) × (1 ≤ length bytes)
decoded_some_ok (Ok []) bytes e = absurd cc
decoded_some_ok (Ok (b ∷ bs)) bytes e = let same = ok_is (b ∷ bs) bytes e in (cc, subst (λ (xs : List ℕ). 1 ≤ length xs) same (omega arith))
decoded_some_ok (Err f) bytes e = absurd cc

some_decoded : (bytes : List ℕ) → 1 ≤ length bytes → decoded_some {E = FromHexError} (Ok bytes) ≡ Ok bytes
some_decoded [] le = absurd (omega arith)
some_decoded (b ∷ bytes) le = refl

pub some_ok : (word bytes : List ℕ) → some_said word ≡ Ok bytes → Spells word bytes × (1 ≤ length bytes)
unfolding some_said
some_ok word bytes e = decoded_some_ok (decode_of word) bytes e

pub some_is : (word bytes : List ℕ) → Spells word bytes → 1 ≤ length bytes → some_said word ≡ Ok bytes
unfolding some_said
some_is word bytes h some = rw h (some_decoded bytes some)

pub short_ok : (bytes short : List ℕ) → short_said bytes ≡ Ok short → (length bytes ≤ 64) × (bytes ≡ short)
unfolding short_said
short_ok bytes short e = let g = guarded (nat_le (length bytes) 64) bytes short fault.TooLong e in (leb-true (length bytes) 64 g.0, g.1)

pub short_is : (bytes : List ℕ) → length bytes ≤ 64 → short_said bytes ≡ Ok bytes
unfolding short_said
short_is bytes le = rw (le-leb (length bytes) 64 le) refl

abbrev pub exponents : List ℕ
exponents = 0 ∷ 1 ∷ 2 ∷ 3 ∷ 4 ∷ 5 ∷ 6 ∷ 7 ∷ 8 ∷ 9 ∷ 10 ∷ []

or_power : (b : Bool) (n k : ℕ) (more : Bool) → eqb n (2 ^ k) ≡ b → (more ≡ true → IsPower n) → (b || more) ≡ true → IsPower n
or_power true n k more is f e = record { exponent = k; power = eqb-true n (2 ^ k) is }
or_power false n k more is f e = f e

pub power_found : (n : ℕ) (ks : List ℕ) → list_any (λ k. eqb n (2 ^ k)) ks ≡ true → IsPower n
power_found n [] e = absurd cc
power_found n (k ∷ ks) e = or_power (eqb n (2 ^ k)) n k (list_any (λ j. eqb n (2 ^ j)) ks) refl (power_found n ks) e

too_big : (k : ℕ) → 11 ≤ k → 2 ^ k ≤ 1024 → ⊥
too_big k low le = let big : 2 ^ 11 ≤ 2 ^ k = pow_mono {i = 11} {j = k} low in omega arith

pub small_power : (k : ℕ) → 2 ^ k ≤ 1024 → is_power (2 ^ k) ≡ true
small_power zero le = refl
small_power (suc zero) le = refl
small_power (suc (suc zero)) le = refl
small_power (suc (suc (suc zero))) le = refl
small_power (suc (suc (suc (suc zero)))) le = refl
small_power (suc (suc (suc (suc (suc zero))))) le = refl
small_power (suc (suc (suc (suc (suc (suc zero)))))) le = refl
small_power (suc (suc (suc (suc (suc (suc (suc zero))))))) le = refl
small_power (suc (suc (suc (suc (suc (suc (suc (suc zero)))))))) le = refl
small_power (suc (suc (suc (suc (suc (suc (suc (suc (suc zero))))))))) le = refl
small_power (suc (suc (suc (suc (suc (suc (suc (suc (suc (suc zero)))))))))) le = refl
small_power (suc (suc (suc (suc (suc (suc (suc (suc (suc (suc (suc k))))))))))) le =
    absurd (too_big (suc (suc (suc (suc (suc (suc (suc (suc (suc (suc (suc k))))))))))) (omega arith) le)

sized_power : (word : List ℕ) (k n : ℕ) → ranged 1 1024 word ≡ Ok k → cond (is_power k) (Ok k) (Err fault.QueueSize) ≡ Ok n → IsWithin 1 1024 word n × IsPower n
sized_power word k n r e =
    let g = guarded (is_power k) k n fault.QueueSize e in
    let same = g.1 in
    (subst (λ (i : ℕ). IsWithin 1 1024 word i) same (ranged_ok 1 1024 word k r), subst (λ (i : ℕ). IsPower i) same (power_found k exponents g.0))

pub size_ok : (word : List ℕ) (n : ℕ) → size_said word ≡ Ok n → IsWithin 1 1024 word n × IsPower n
unfolding size_said
size_ok word n e =
    let s = steps (ranged 1 1024 word) (λ size. cond (is_power size) (Ok size) (Err fault.QueueSize)) n e in
    sized_power word s.value n s.first s.next

pub size_is : (word : List ℕ) (n : ℕ) → IsWithin 1 1024 word n → IsPower n → size_said word ≡ Ok n
unfolding size_said
size_is word n h p =
    let small = subst (λ (k : ℕ). k ≤ 1024) p.power h.upto in
    rw (ranged_is 1 1024 word n h) (rw (ap is_power p.power ∙ small_power p.exponent small) refl)

pub extent_ok : (addr len : List ℕ) (e : ℕ × ℕ) → extent_said addr len ≡ Ok e → IsWithin 1 (2 ^ 48) addr e.0 × IsWithin 1 65536 len e.1
unfolding extent_said
extent_ok addr len e h =
    let a = steps (ranged 1 (2 ^ 48) addr) _ e h in
    let c = steps (ranged 1 65536 len) _ e a.next in
    let same : (a.value, c.value) ≡ e = ok_is _ e c.next in
    subst (λ (x : ℕ × ℕ). IsWithin 1 (2 ^ 48) addr x.0 × IsWithin 1 65536 len x.1) same (ranged_ok 1 (2 ^ 48) addr a.value a.first, ranged_ok 1 65536 len c.value c.first)

pub extent_is : (addr len : List ℕ) (at n : ℕ) → IsWithin 1 (2 ^ 48) addr at → IsWithin 1 65536 len n → extent_said addr len ≡ Ok (at, n)
unfolding extent_said
extent_is addr len at n a l = rw (ranged_is 1 (2 ^ 48) addr at a, ranged_is 1 65536 len n l) refl
