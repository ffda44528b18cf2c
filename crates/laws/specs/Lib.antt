-- Laws of lists, orders, tables and slices over the definition's small functions: nothing about searches, pruning or calls. Each fact stands once.
--   Truth     tests as facts                                   Tables     tables row by row, ids and padding
--   Members   what is in a list                                Parts      parts of a slice that are lent and come back
--   Apart     lists in which nothing stands twice              Filled     a slice filled with one value from the front
--   Sorting   `place` and `sort` over any order                Backwards  a list from its end to its front
--   Rising    `rising` depends only on which ids there are     Words      the search rule, word by word
--   Items     the orders of items, ids, the best of a beam     Writing    a slice written from its front
--   Draws     a draw below m is below m                        Remainders numbers less than m apart differ modulo m
--   Listed    the listed nodes with their fresh rows           Places     earlier and later places of a list in order
--   Below     what holds of every number below a bound         Inserts    what `insert` and capped insert leave
--   Looked    a loop that looks for what fails a test          Paired     items held in two lists, ids and distances
--   All       what holds of every element of a list            Mapped     a list with f of each element
--   Cleaned   a table as `lookup` reads it                     Descending items that descend, as in a beam
--   Sums      numbers added up and counted, one more           Sorted     `sort` where equals may stand twice; stretches that it turns
--   Numbers   the numbers of refusals
pub mod Truth
pub mod Members
pub mod Apart
pub mod Sorting
pub mod Rising
pub mod Items
pub mod Inserts
pub mod Tables
pub mod Parts
pub mod Filled
pub mod Backwards
pub mod Words
pub mod Writing
pub mod Draws
pub mod Remainders
pub mod Listed
pub mod Below
pub mod Places
pub mod Looked
pub mod All
pub mod Mapped
pub mod Paired
pub mod Cleaned
pub mod Descending
pub mod Sums
pub mod Sorted
pub mod Numbers
