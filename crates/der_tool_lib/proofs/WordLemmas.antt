-- The words of a command.
use Rattle.std.proofs.Common.{◌≡◌, ℕ, ◌<◌, ◌≤◌, List, [], ◌∷◌, map, length, get_or, codes, true, false, inl, inr, sym, ap, ◌∙◌, arith}
use Rattle.std.proofs.lemmas.Slice.Eq.{bytes_eq-Decides}
use Rattle.std.specs.Str.{bytes_eq}
use Rattle.der.specs.Prelude.{Ber, Der}
use Rattle.der_tool_lib.specs.ToolCommand.{order_words, join_words, two, three, IsCommand, IsHex}

-- a list that matches a pattern of two items
map_two : {A : Type 0} (f : A → List ℕ) (xs : List A) (a b : A) → 2 ≤ length xs → length xs < 3 → a ≡ get_or xs 0 a → b ≡ get_or xs 1 b → map f xs ≡ two (f a) (f b)
map_two f [] a b l m p q = grind arith
map_two f (x ∷ []) a b l m p q = grind arith
map_two f (x ∷ y ∷ []) a b l m p q = grind arith
map_two f (x ∷ y ∷ z ∷ more) a b l m p q = grind arith

-- the words of such a list, given each of its items
pub two_words : {A : Type 0} (f : A → List ℕ) (xs : List A) (a b : A) (first second : List ℕ) → 2 ≤ length xs → length xs < 3 → a ≡ get_or xs 0 a → b ≡ get_or xs 1 b → first ≡ f a → second ≡ f b
    → map f xs ≡ two first second
two_words f xs a b first second l m p q r s = map_two f xs a b l m p q ∙ cc

-- a list that matches a pattern of three items
map_three : {A : Type 0} (f : A → List ℕ) (xs : List A) (a b c : A) → 3 ≤ length xs → length xs < 4 → a ≡ get_or xs 0 a → b ≡ get_or xs 1 b → c ≡ get_or xs 2 c
    → map f xs ≡ three (f a) (f b) (f c)
map_three f [] a b c l m p q r = grind arith
map_three f (x ∷ []) a b c l m p q r = grind arith
map_three f (x ∷ y ∷ []) a b c l m p q r = grind arith
map_three f (x ∷ y ∷ z ∷ []) a b c l m p q r = grind arith
map_three f (x ∷ y ∷ z ∷ w ∷ more) a b c l m p q r = grind arith

-- the words of such a list, given each of its items
pub three_words : {A : Type 0} (f : A → List ℕ) (xs : List A) (a b c : A) (first second third : List ℕ) → 3 ≤ length xs → length xs < 4 → a ≡ get_or xs 0 a → b ≡ get_or xs 1 b → c ≡ get_or xs 2 c
    → first ≡ f a → second ≡ f b → third ≡ f c → map f xs ≡ three first second third
three_words f xs a b c first second third l m p q r s t u = map_three f xs a b c l m p q r ∙ cc

-- the word `order` and two words
pub words_with_order : (name first second : List ℕ) → true ≡ bytes_eq name (codes "order") → three name first second ≡ order_words first second
words_with_order name first second e =
    let s : name ≡ codes "order" = (bytes_eq-Decides name (codes "order")).0 (sym e) in
    cc

-- the word `order` and two others are a command only if these are octets in hexadecimal
pub command_with_order : (first second : List ℕ) → IsCommand (order_words first second) → IsHex first × IsHex second
command_with_order first second (inl (Der, n, h, named, digits, is)) = absurd (grind arith)
command_with_order first second (inl (Ber, n, h, inl named, digits, is)) = absurd (let is_order : n ≡ codes "order" = grind arith in let no : codes "head" ≡ codes "order" = sym named ∙ is_order in cc)
command_with_order first second (inl (Ber, n, h, inr named, digits, is)) = absurd (let is_order : n ≡ codes "order" = grind arith in let no : codes "tlv" ≡ codes "order" = sym named ∙ is_order in cc)
command_with_order first second (inr (inl (one, other, digits, more, is))) = grind arith
command_with_order first second (inr (inr (hex, digits, is))) = absurd (grind arith)

-- the word `join` and another
pub words_with_join : (name hex : List ℕ) → true ≡ bytes_eq name (codes "join") → two name hex ≡ join_words hex
words_with_join name hex e =
    let s : name ≡ codes "join" = (bytes_eq-Decides name (codes "join")).0 (sym e) in
    cc

-- the word `join` and another are a command only if that is octets in hexadecimal
pub command_with_join : (hex : List ℕ) → IsCommand (join_words hex) → IsHex hex
command_with_join hex (inl (Ber, n, h, named, digits, is)) = absurd (grind arith)
command_with_join hex (inl (Der, n, h, inl named, digits, is)) = absurd (let is_join : n ≡ codes "join" = grind arith in let no : true ≡ false = ap (bytes_eq (codes "head")) (sym named ∙ is_join) in cc)
command_with_join hex (inl (Der, n, h, inr named, digits, is)) = absurd (let is_join : n ≡ codes "join" = grind arith in let no : true ≡ false = ap (bytes_eq (codes "tlv")) (sym named ∙ is_join) in cc)
command_with_join hex (inr (inl (one, other, digits, more, is))) = absurd (grind arith)
command_with_join hex (inr (inr (text, digits, is))) = grind arith
