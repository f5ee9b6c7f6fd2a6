-- What is said of two files that were fetched.
use Rattle.std.specs.Prelude.{◌≡◌, ◌<◌, ℕ, List, Some, Result, Ok, Err, length, slice_get}
use Rattle.pv_class.specs.declared.file.Method.{Method}
use Rattle.pv_class.specs.declared.file.ClassFile.{ClassFile}
use Rattle.pv_class.specs.declared.fault.ClassFault.{ClassFault}
use Rattle.pv_class.specs.ClassFiles.{IsClass}
use Rattle.pv_class.specs.ClassFaults.{IsBad}
use Rattle.pv_class.specs.Answers.{IsAnswer}
use Rattle.pv_class.specs.declared.class.TheConstants.{LONGEST_FILE}
use Rattle.pv_report.specs.declared.pair.Fetched.{Fetched}
use Rattle.pv_report.specs.declared.pair.Fetched.TheVariants.{Bytes, TooLong}
use Rattle.pv_report.specs.declared.pair.Pair.{Pair}
use Rattle.pv_report.specs.declared.pair.BadClass.{BadClass}
use Rattle.pv_report.specs.declared.status.Status.{Status}
use Rattle.pv_report.specs.declared.verdict.Side.{Side}
use Rattle.pv_report.specs.declared.verdict.Side.TheVariants as side
use Rattle.pv_report.specs.declared.verdict.Verdict.{Verdict}
use Rattle.pv_graph.specs.Graphs.{Graph}
use Rattle.pv_alike.specs.Least.{Rooted, IsLeastOf}
use Rattle.pv_heights.specs.Verdicts as search
use Rattle.pv_denote.specs.Meaning.{Same}
use Rattle.pv_certify.specs.Searched.{Limits}
use Rattle.pv_report.specs.Options.{Options}
use Rattle.pv_report.specs.declared.verdict.Verdict.TheVariants as verdict
use Rattle.pv_report.specs.Roots.{HaveLeast}
use Rattle.pv_report.specs.Verdicts.{LackRoots, Finds, IsVerdict, IsVerdictOn}
use Rattle.pv_report.specs.Partners.{IsLike}
use Rattle.pv_report.specs.Report.{HasClass, Judged}

-- a fetch with this limit gave these bytes
abbrev pub IsFetchedWithin : ℕ → Fetched → List ℕ → Type 0
IsFetchedWithin limit (Bytes v) bytes = v.items ≡ bytes
IsFetchedWithin limit TooLong bytes = limit < length bytes

-- .. of a class file
abbrev pub IsFetched : Fetched → List ℕ → Type 0
IsFetched fetched bytes = IsFetchedWithin LONGEST_FILE fetched bytes

-- the class of the bytes that were fetched, or their fault
abbrev pub ReadsFetched : Fetched → Result ClassFile ClassFault → Type 0
ReadsFetched fetched read = (bytes : List ℕ) → IsFetched fetched bytes → IsAnswer bytes read

-- the classes of the bytes of two files, or the first of the two that has no reading
abbrev pub IsPair : List ℕ → List ℕ → Pair → Type 0
IsPair a b pair = IsClass a pair.first × IsClass b pair.second

abbrev pub IsBadSide : List ℕ → List ℕ → Side → ClassFault → Type 0
IsBadSide a b side.First fault = IsBad a fault
IsBadSide a b side.Second fault = HasClass a × IsBad b fault

abbrev pub IsPairOr : List ℕ → List ℕ → Result Pair BadClass → Type 0
IsPairOr a b (Ok pair) = IsPair a b pair
IsPairOr a b (Err bad) = IsBadSide a b bad.side bad.fault

-- .. of the bytes that were fetched
abbrev pub ReadsPair : Fetched → Fetched → Result Pair BadClass → Type 0
ReadsPair first second read = (a b : List ℕ) → IsFetched first a → IsFetched second b → IsPairOr a b read

-- what is said of the bytes that were fetched
abbrev pub JudgesFetched : Options → Fetched → Fetched → List ℕ → Status → Type 0
JudgesFetched options first second text s = (a b : List ℕ) → IsFetched first a → IsFetched second b → Judged options a b text s

-- a class file that was read
abbrev pub IsRead : ClassFile → Type 0
IsRead file = (bytes : List ℕ) × IsClass bytes file

-- two class files that were read
abbrev pub IsReadPair : Pair → Type 0
IsReadPair pair = IsRead pair.first × IsRead pair.second

-- the verdict on the method at a place of the first class
abbrev pub IsVerdictAt : Options → ClassFile → ℕ → ClassFile → Verdict → Type 0
IsVerdictAt options first place second v = (m : Method) → slice_get first.methods place ≡ Some m → IsVerdict options first second m v

-- the verdict on two methods at their places
abbrev pub IsVerdictOnPlaces : Options → ClassFile → ℕ → ClassFile → ℕ → Verdict → Type 0
IsVerdictOnPlaces options first place second other v = (m p : Method) → slice_get first.methods place ≡ Some m → slice_get second.methods other ≡ Some p → IsVerdictOn options first m second p v

-- what is said of what a search found
abbrev pub said_of : search.Verdict → Verdict
said_of search.equivalent = verdict.Equivalent
said_of search.apart = verdict.Apart
said_of (search.rounds n) = verdict.Rounds n
said_of (search.budget k) = verdict.Budget k

-- what is said of the roots of a least graph by a search in it; where it finds them equal, they have the same values
pub record IsFoundBy (limits : Limits) (l : Rooted) (v : Verdict) : Type 0 where
  pub found : search.Verdict
  pub said : v ≡ said_of found
  pub finds : Finds limits found l
  pub same : v ≡ verdict.Equivalent → Same l.graph l.first l.second

-- the least graph of two nodes of some graph
abbrev pub IsLeastOfSome : Rooted → Type 0
IsLeastOfSome l = (g : Graph) × (a : ℕ) × (b : ℕ) × IsLeastOf g a b l

-- the verdict on each two methods of whose roots it is the least graph
abbrev pub IsVerdictBy : Options → Rooted → Verdict → Type 0
IsVerdictBy options l v = (first : ClassFile) (m : Method) (second : ClassFile) (p : Method) → HaveLeast first m second p l → IsVerdictOn options first m second p v

-- the least graph of the roots of two methods, or the verdict where they don't both have a root
abbrev pub IsLeastOn : ClassFile → Method → ClassFile → Method → Result Rooted Verdict → Type 0
IsLeastOn first m second p (Ok l) = HaveLeast first m second p l
IsLeastOn first m second p (Err v) = LackRoots first m second p v

-- so it is for two methods at their places
abbrev pub IsLeastOnPlaces : ClassFile → ℕ → ClassFile → ℕ → Result Rooted Verdict → Type 0
IsLeastOnPlaces first place second other found = (m p : Method) → slice_get first.methods place ≡ Some m → slice_get second.methods other ≡ Some p → IsLeastOn first m second p found

-- the method at this place is like this one
abbrev pub IsLikeAt : Method → List Method → ℕ → Type 0
IsLikeAt m others place = (p : Method) × (slice_get others place ≡ Some p) × IsLike m p
