mod Texts
mod Cutting
