-- Formats made of formats. Their laws are composed here once and for all.
use Rattle.std.specs.Prelude.{◌≡◌, ◌≢◌, ℕ, Bool, false, List, [], ◌∷◌, ◌++◌, map, Some, refl}
use Rattle.std.specs.Option.{option_map, option_and_then}
use Rattle.std.specs.List.{flat_map, AllByRecursion, slice_split}
use Rattle.pv_format.specs.Formats.{Format, Front}
use Rattle.pv_format.specs.Reading.{take_one, take_pair, read_follow, at_end, read_each, read_pairs, some_of, made, read_canonical, IsCanonical, find_named, read_both, read_constant}
use Rattle.pv_format.specs.Splits.{join, Separator, AreParts, text_of, is_blank, is_feed, body_of, cut}
use Rattle.pv_format.specs.FormatLaws
use Rattle.pv_format.specs.SplitLaws

-- ---- at the front of a text

-- one symbol
abbrev pub one : {T A : Type 0} {P : T → Type 0} → Format P A → Front P A
one w = record {
  fits = w.fits;
  spells = λ a. w.spells a ∷ [];
  takes = take_one w.reads;
  again = FormatLaws.one_again w;
  back = FormatLaws.one_back w;
  proper = λ a fits. (w.proper a fits, tt);
}

-- no symbol
abbrev pub nothing : {S : Type 0} {P : S → Type 0} → Front P (Unit {0})
nothing = record {
  fits = λ a. Unit {0};
  spells = λ a. [];
  takes = λ text. Some (tt, text);
  again = λ a rest fits. refl;
  back = FormatLaws.nothing_back;
  proper = λ a fits. tt;
}

-- one after the other
abbrev pub pair : {S A B : Type 0} {P : S → Type 0} → Front P A → Front P B → Front P (A × B)
pair f g = record {
  fits = λ p. f.fits p.0 × g.fits p.1;
  spells = λ p. f.spells p.0 ++ g.spells p.1;
  takes = take_pair f.takes g.takes;
  again = FormatLaws.pair_again f g;
  back = FormatLaws.pair_back f g;
  proper = λ p fits. FormatLaws.all-append _ (f.spells p.0) (g.spells p.1) (f.proper p.0 fits.0) (g.proper p.1 fits.1);
}

-- another type with the same values
abbrev pub seen_as : {S A B : Type 0} {P : S → Type 0} (to : A → B) (from : B → A) → ((b : B) → to (from b) ≡ b) → ((a : A) → from (to a) ≡ a) → Front P A → Front P B
seen_as to from there here f = record {
  fits = λ b. f.fits (from b);
  spells = λ b. f.spells (from b);
  takes = made to f.takes;
  again = FormatLaws.seen_again to from there f;
  back = FormatLaws.seen_back to from here f;
  proper = λ b fits. f.proper (from b) fits;
}

-- ---- whole texts

-- one, and then the rest of the text
abbrev pub follow : {S A B : Type 0} {P : S → Type 0} → Front P A → Format (AllByRecursion P) B → Format (AllByRecursion P) (A × B)
follow f g = record {
  fits = λ p. f.fits p.0 × g.fits p.1;
  spells = λ p. f.spells p.0 ++ g.spells p.1;
  reads = read_follow f.takes g.reads;
  again = FormatLaws.follow_again f g;
  back = FormatLaws.follow_back f g;
  proper = λ p fits. FormatLaws.all-append _ (f.spells p.0) (g.spells p.1) (f.proper p.0 fits.0) (g.proper p.1 fits.1);
}

-- one, and nothing after it
abbrev pub exactly : {S A : Type 0} {P : S → Type 0} → Front P A → Format (AllByRecursion P) A
exactly f = record {
  fits = f.fits;
  spells = f.spells;
  reads = λ text. option_and_then at_end (f.takes text);
  again = FormatLaws.exactly_again f;
  back = FormatLaws.exactly_back f;
  proper = f.proper;
}

-- a list, of which each symbol is one member
abbrev pub each : {T A : Type 0} {P : T → Type 0} → Format P A → Format (AllByRecursion P) (List A)
each w = record {
  fits = AllByRecursion w.fits;
  spells = map w.spells;
  reads = read_each w.reads;
  again = FormatLaws.each_again w;
  back = FormatLaws.each_back w;
  proper = FormatLaws.each_proper w;
}

-- a list, of which two symbols each are one member
abbrev pub each_pair : {T A : Type 0} {P : T → Type 0} → Format P A → Format (AllByRecursion P) (List (A × A))
each_pair w = record {
  fits = AllByRecursion (λ p. w.fits p.0 × w.fits p.1);
  spells = flat_map (λ p. w.spells p.0 ∷ w.spells p.1 ∷ []);
  reads = read_pairs w.reads;
  again = FormatLaws.pairs_again w;
  back = FormatLaws.pairs_back w;
  proper = FormatLaws.pairs_proper w;
}

-- a list that has a member
abbrev pub some : {T A : Type 0} {P : T → Type 0} → Format P (List A) → Format P (List A)
some w = record {
  fits = λ list. (list ≢ []) × w.fits list;
  spells = w.spells;
  reads = λ text. option_and_then some_of (w.reads text);
  again = FormatLaws.some_again w;
  back = FormatLaws.some_back w;
  proper = λ list fits. w.proper list fits.1;
}

-- another type with the same values
abbrev pub whole_as : {T A B : Type 0} {P : T → Type 0} (to : A → B) (from : B → A) → ((b : B) → to (from b) ≡ b) → ((a : A) → from (to a) ≡ a) → Format P A → Format P B
whole_as to from there here f = record {
  fits = λ b. f.fits (from b);
  spells = λ b. f.spells (from b);
  reads = λ text. option_map to (f.reads text);
  again = FormatLaws.whole_again to from there f;
  back = FormatLaws.whole_back to from here f;
  proper = λ b fits. f.proper (from b) fits;
}

-- the same spellings, of which something else holds too
abbrev pub also : {T A : Type 0} {P : T → Type 0} (Q : T → Type 0) (w : Format P A) → ((a : A) → w.fits a → Q (w.spells a)) → Format Q A
also Q w holds = record { fits = w.fits; spells = w.spells; reads = w.reads; again = w.again; back = w.back; proper = holds }

-- a value whose spelling is itself spelled by another format
abbrev pub within : {T U A : Type 0} {P R : T → Type 0} {Q : U → Type 0} (outer : Format P U) (inner : Format Q A) → ((u : U) → Q u → outer.fits u) → ((u : U) → Q u → R (outer.spells u)) → Format R A
within outer inner fit proper = record {
  fits = inner.fits;
  spells = λ a. outer.spells (inner.spells a);
  reads = λ text. option_and_then inner.reads (outer.reads text);
  again = FormatLaws.within_again outer inner fit;
  back = FormatLaws.within_back outer inner;
  proper = λ a fits. proper (inner.spells a) (inner.proper a fits);
}

-- ---- texts cut at a separator

-- parts with a separator between two of them
abbrev pub parts : {S : Type 0} → Separator S → Format {T = List S} (λ text. Unit {0}) (List (List S))
parts sep = record {
  fits = AreParts sep;
  spells = join sep.symbol;
  reads = λ text. Some (slice_split sep.is text);
  again = SplitLaws.parts_again sep;
  back = SplitLaws.parts_back sep;
  proper = λ list fits. tt;
}

-- two values with a separator between them, of which there is none in the first
abbrev pub cut_pair : {S A B : Type 0} {P Q R : List S → Type 0} (sep : Separator S) (f : Format P A) (g : Format Q B)
    → ((a : A) → f.fits a → AllByRecursion (λ s. sep.is s ≡ false) (f.spells a)) → ((a : A) (b : B) → f.fits a → g.fits b → R (f.spells a ++ sep.symbol ∷ g.spells b)) → Format R (A × B)
cut_pair sep f g apart proper = record {
  fits = λ p. f.fits p.0 × g.fits p.1;
  spells = λ p. f.spells p.0 ++ sep.symbol ∷ g.spells p.1;
  reads = λ text. option_and_then (read_both f.reads g.reads) (cut sep.is text);
  again = SplitLaws.cut_pair_again sep f g apart;
  back = SplitLaws.cut_pair_back sep f g;
  proper = λ p fits. proper p.0 p.1 fits.0 fits.1;
}

abbrev pub blank : Separator ℕ
blank = record { symbol = 32; is = is_blank; here = refl; only = SplitLaws.only_blank }

abbrev pub feed : Separator ℕ
feed = record { symbol = 10; is = is_feed; here = refl; only = SplitLaws.only_feed }

-- lines, each of which ends with a line feed
abbrev pub lines : Format {T = List ℕ} (λ text. Unit {0}) (List (List ℕ))
lines = record {
  fits = AreParts feed;
  spells = text_of;
  reads = λ text. option_map (slice_split is_feed) (body_of text);
  again = SplitLaws.lines_again;
  back = SplitLaws.lines_back;
  proper = λ a fits. tt;
}

-- ---- texts of bytes

-- A value whose spelling tells it: `means` is what a text means at most, and the text is read where that is spelled so.
abbrev pub canonical : {A : Type 0} {P : List ℕ → Type 0} (fits : A → Type 0) (test : A → Bool) (spells : A → List ℕ) (means : List ℕ → A) → IsCanonical P fits test spells means → Format P A
canonical fits test spells means is = record {
  fits = fits;
  spells = spells;
  reads = read_canonical test spells means;
  again = FormatLaws.canonical_again is;
  back = FormatLaws.canonical_back is;
  proper = is.proper;
}

-- this text alone
abbrev pub constant : {P : List ℕ → Type 0} (text : List ℕ) → P text → Format P (Unit {0})
constant text proper = record {
  fits = λ a. Unit {0};
  spells = λ a. text;
  reads = read_constant text;
  again = λ a fits. FormatLaws.constant_again text;
  back = FormatLaws.constant_back text;
  proper = λ a fits. proper;
}

-- one of a list of values that have names
abbrev pub named : {A : Type 0} {P : List ℕ → Type 0} (name : A → List ℕ) (all : List A) → ((a : A) → (find_named name all (name a) ≡ Some a) × P (name a)) → Format P A
named name all rows = record {
  fits = λ a. Unit {0};
  spells = name;
  reads = find_named name all;
  again = λ a fits. (rows a).0;
  back = FormatLaws.named_back name all;
  proper = λ a fits. (rows a).1;
}
